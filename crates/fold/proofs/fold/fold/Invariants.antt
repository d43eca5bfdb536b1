use Rattle.std.proofs.Common.{◌-◌}
use Rattle.fold.proofs.AtRound.{AtRound}
use Rattle.fold.proofs.fold.fold.Given as goal

abbrev pub invariant-loop-next : goal.invariant-loop-next
invariant-loop-next g l = AtRound (g.N.Net.model l.net) l.rounds l.groups

abbrev pub decreases-loop-next : goal.decreases-loop-next
decreases-loop-next g l = 192 - l.rounds
