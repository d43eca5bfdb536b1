use Rattle.std.proofs.Common.{arith}
use Rattle.format.specs.Sheets.{row_of}
use Rattle.writer.proofs.Writing.{each_none, each_next, each_room}
use Rattle.writer.proofs.write.write_rows.Goals as goal

pub loop-t-init : goal.loop-t-init
loop-t-init g c = each_none (row_of (g.N.Net.model c.args.net.now)) c.args.pen.now

pub write_row-requires : goal.write_row-requires
write_row-requires g c =
    let m = g.N.Net.model c.args.net.now in
    each_room (row_of m) c.loop-t.t m.transitions c.loop-t.invariant (omega (arith, c.transitions-t-end.ensures)) c.requires

pub loop-t-preserved : goal.loop-t-preserved
loop-t-preserved g c = each_next (row_of (g.N.Net.model c.args.net.now)) c.loop-t.t c.loop-t.invariant c.write_row.ensures
