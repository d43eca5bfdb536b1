use Rattle.std.proofs.Common.{◌≡◌}
use Rattle.net.specs.Bags.{weights}
use Rattle.bisimulation.specs.Rounds.{group_count}
use Rattle.fold.specs.Together.{together}
use Rattle.fold.proofs.grouped.GroupedNet.group_weight.Given as goal

abbrev pub invariant-loop-p : goal.invariant-loop-p
invariant-loop-p g l = l.sum ≡ group_count l.p (together l.self.groups.now.places.leaders) (weights l.bag (g.N.Net.model l.self.net.now) l.transition.0) l.member.0
