use Rattle.std.proofs.Common.{[], ◌∷◌, ◌∙◌, arith}
use Rattle.net.specs.Bags.{weights}
use Rattle.writer.proofs.Writing.{each_none, values_next, values_room, values_to}
use Rattle.writer.proofs.write.write_bag.Goals as goal

pub loop-p-init : goal.loop-p-init
loop-p-init g c = each_none (λ p. (8, weights c.args.bag (g.N.Net.model c.args.net.now) c.args.t.0 p) ∷ []) c.args.pen.now

pub push-requires-clause-room : goal.push-requires-clause-room
push-requires-clause-room g c =
    let m = g.N.Net.model c.args.net.now in
    values_room 8 (weights c.args.bag m c.args.t.0) c.loop-p.p m.places _ c.loop-p.invariant (omega (arith, c.places-p-end.ensures)) c.requires

pub loop-p-preserved : goal.loop-p-preserved
loop-p-preserved g c =
    values_next 8 (weights c.args.bag (g.N.Net.model c.args.net.now) c.args.t.0) c.loop-p.p c.loop-p.invariant (c.from.ensures ∙ c.weight.ensures) c.push.ensures

pub returns : goal.returns
returns g c = values_to 8 (weights c.args.bag (g.N.Net.model c.args.net.now) c.args.t.0) (omega (arith, c.places-p-end.ensures)) c.loop-p.invariant
