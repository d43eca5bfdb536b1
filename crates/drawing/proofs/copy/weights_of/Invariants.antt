use Rattle.net.specs.Bags.{weights}
use Rattle.drawing.proofs.Filled.{Numbers}
use Rattle.drawing.proofs.copy.weights_of.Given as goal

abbrev pub invariant-loop-p : goal.invariant-loop-p
invariant-loop-p g l = Numbers (weights l.bag (g.N.Net.model l.net) l.transition.0) l.p l.weights
