use Rattle.drawing.proofs.Filled.{Numbers}
use Rattle.drawing.proofs.copy.place_labels.Given as goal

abbrev pub invariant-loop-p : goal.invariant-loop-p
invariant-loop-p g l = Numbers (g.N.Net.model l.net).place_label l.p l.labels
