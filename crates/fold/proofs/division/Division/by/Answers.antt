use Rattle.std.proofs.Common.{◌<◌, arith}
use Rattle.fold.proofs.Formed.{formed_none, formed_new, formed_old, all_formed, formed_led}
use Rattle.fold.proofs.division.Division.by.Goals.{then-leader-p, else-leader-p}
use Rattle.fold.proofs.division.Division.by.Goals as goal

pub loop-p-init : goal.loop-p-init
loop-p-init g c = formed_none _ _ _

pub loop-p-preserved : goal.loop-p-preserved
loop-p-preserved g c =
    let like = g.L.Likeness.like c.args.by.now in
    let n = g.L.Likeness.size c.args.by.now in
    let p = c.loop-p.p in
    let E = g.met.L.Likeness.laws c.args.by.now in
    let is = rw c.nth.ensures at c.lowest_alike-leader.ensures in
    let below : p < n = omega arith in
    let room : p < g.row.MOST = omega arith in
    elim c.if-leader-p.branch [
      | then-leader-p w ↦ rw (w.groups-is, c.from.ensures) (formed_new like n g.row.MOST E p _ _ _ c.loop-p.invariant below room is w.if-leader-p.true)
      | else-leader-p w ↦ rw (w.groups-is, c.from.ensures) (formed_old like n g.row.MOST E p _ _ _ c.loop-p.invariant below room is w.if-leader-p.false)
    ]

pub invariant_of-result : goal.invariant_of-result
invariant_of-result g c =
    let like = g.L.Likeness.like c.args.by.now in
    let n = g.L.Likeness.size c.args.by.now in
    record {
      few = omega arith;
      led = rw c.size-members.ensures (formed_led like n (g.met.L.Likeness.laws c.args.by.now) c.loop-p.leaders (λ p l. c.loop-p.invariant.lead p (omega arith)));
      low = c.loop-p.invariant.low;
    }

pub returns : goal.returns
returns g c = record {
  members = c.size-members.ensures;
  number = all_formed _ _ _ c.loop-p.p _ _ (omega arith) c.loop-p.invariant;
  leaders = λ p l. c.loop-p.invariant.lead p (omega arith);
}
