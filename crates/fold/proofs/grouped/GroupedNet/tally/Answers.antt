use Rattle.std.proofs.Common.{get_or, refl, ◌∙◌, arith}
use Rattle.finite.proofs.Tables.{zero_list}
use Rattle.fold.proofs.Tallied.{tallied_none, tallied_more, tallied_all}
use Rattle.fold.proofs.grouped.GroupedNet.tally.Goals as goal

pub loop-p-init : goal.loop-p-init
loop-p-init g c = tallied_none _ _ _ refl (zero_list 64)

pub loop-p-preserved : goal.loop-p-preserved
loop-p-preserved g c =
    let lawful = g.N.Net.lawful c.args.self.now.net.now in
    let leader = c.leader-leader.ensures in
    tallied_more _ _ c.loop-p.p c.from.result _ c.loop-p.invariant (omega (arith, leader, lawful.few_places)) (c.from.ensures ∙ c.weight.ensures) (omega arith)
    c.from-in-loop-p.result (omega (arith, leader))

pub returns : goal.returns
returns g c = λ x l. tallied_all (λ p. get_or c.args.self.now.groups.now.places.leaders p 0) _ c.loop-p.p _ _ {g = x} (omega arith) c.loop-p.invariant (omega (arith, c.args.self.now.groups.now.places.low x))
