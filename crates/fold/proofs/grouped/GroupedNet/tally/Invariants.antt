use Rattle.std.proofs.Common.{get_or}
use Rattle.net.specs.Bags.{weights}
use Rattle.fold.proofs.Tallied.{Tallied}
use Rattle.fold.proofs.grouped.GroupedNet.tally.Given as goal

abbrev pub invariant-loop-p : goal.invariant-loop-p
invariant-loop-p g l = Tallied (λ p. get_or l.self.groups.now.places.leaders p 0) (weights l.bag (g.N.Net.model l.self.net.now) l.t.0) l.p l.counts
