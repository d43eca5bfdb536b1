use Rattle.std.proofs.Common.{arith}
use Rattle.fold.proofs.Listed.{listed_none, listed_new, listed_old, all_listed}
use Rattle.fold.proofs.leaders.Leaders.of.Goals.{then-leader-p, else-leader-p}
use Rattle.fold.proofs.leaders.Leaders.of.Goals as goal

pub loop-p-init : goal.loop-p-init
loop-p-init g c = rw c.new-listed.ensures (listed_none _ _)

pub loop-p-preserved : goal.loop-p-preserved
loop-p-preserved g c =
    let d = c.args.division.now in
    let is = rw c.nth.ensures at c.leader.ensures.0 in
    elim c.if-leader-p.branch [
      | then-leader-p w ↦ rw (w.listed-is, w.push.ensures.items) (listed_new _ _ _ _ c.loop-p.invariant d.led c.loop-p-test.true (rw is at w.if-leader-p.true))
      | else-leader-p w ↦ rw w.listed-is (listed_old _ _ _ _ c.loop-p.invariant d.led c.loop-p-test.true (rw is at w.if-leader-p.false))
    ]

pub returns : goal.returns
returns g c = (all_listed _ _ c.loop-p.p _ (omega arith) c.loop-p.invariant, c.loop-p.invariant.lists)
