use Rattle.fold.proofs.Formed.{Formed}
use Rattle.fold.proofs.division.Division.by.Given as goal

abbrev pub invariant-loop-p : goal.invariant-loop-p
invariant-loop-p g l = Formed (g.L.Likeness.like l.by) (g.L.Likeness.size l.by) g.row.MOST l.p l.groups l.leaders
