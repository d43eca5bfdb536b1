use Rattle.std.proofs.Common.{[], ◌∷◌}
use Rattle.net.specs.Bags.{weights}
use Rattle.format.specs.Fields.{each}
use Rattle.writer.specs.Ink.{Writes}
use Rattle.writer.proofs.write.write_bag.Given as goal

abbrev pub invariant-loop-p : goal.invariant-loop-p
invariant-loop-p g l = Writes (each (λ p. (8, weights l.bag (g.N.Net.model l.net) l.t.0 p) ∷ []) l.p) l.initial.pen l.pen
