use Rattle.fold.proofs.Listed.{Listed}
use Rattle.fold.proofs.leaders.Leaders.of.Given as goal

abbrev pub invariant-loop-p : goal.invariant-loop-p
invariant-loop-p g l = Listed l.division.leaders l.division.members l.p l.listed.items
