use Rattle.std.proofs.Common.{arith}
use Rattle.format.specs.Fields.{size}
use Rattle.format.proofs.Sizes.{size_same, size_row}
use Rattle.writer.proofs.Writing.{writes_join, writes_value}
use Rattle.writer.proofs.write.write_row.Goals as goal

pub push-requires-clause-room : goal.push-requires-clause-room
unfolding size
push-requires-clause-room g c = omega (arith, c.requires, size_row (g.N.Net.model c.args.net.now) c.args.t.0)

pub write_bag-requires : goal.write_bag-requires
unfolding size
write_bag-requires g c =
    let m = g.N.Net.model c.args.net.now in
    omega (arith, c.requires, size_row m c.args.t.0, size_same 8 (m.cause c.args.t.0) m.places, c.push.ensures.sized, c.push.ensures.long)

pub write_bag-requires-2 : goal.write_bag-requires-2
unfolding size
write_bag-requires-2 g c =
    let m = g.N.Net.model c.args.net.now in
    let t = c.args.t.0 in
    let pushed = c.push.ensures in
    let caused = c.write_bag.ensures in
    omega (arith, c.requires, size_row m t, size_same 8 (m.cause t) m.places, size_same 8 (m.effect t) m.places, pushed.sized, pushed.long, caused.sized, caused.long)

pub returns : goal.returns
returns g c = writes_join (writes_value c.label_number.ensures.0 c.push.ensures) (writes_join c.write_bag.ensures c.write_bag-2.ensures)
