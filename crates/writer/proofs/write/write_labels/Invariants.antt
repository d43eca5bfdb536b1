use Rattle.std.proofs.Common.{[], ◌∷◌}
use Rattle.format.specs.Fields.{each}
use Rattle.writer.specs.Ink.{Writes}
use Rattle.writer.proofs.write.write_labels.Given as goal

abbrev pub invariant-loop-p : goal.invariant-loop-p
invariant-loop-p g l = Writes (each (λ p. (10, (g.N.Net.model l.net).place_label p) ∷ []) l.p) l.initial.pen l.pen
