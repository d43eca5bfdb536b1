use Rattle.std.proofs.Common.{◌++◌}
use Rattle.format.specs.Sheets.{head_of, labels_of, rows_of}
use Rattle.writer.proofs.Writing.{writes_join, room_front, room_after}
use Rattle.writer.proofs.write.write_fields.Goals as goal

pub write_head-requires : goal.write_head-requires
write_head-requires g c =
    let m = g.N.Net.model c.args.net.now in
    room_front (head_of m) (labels_of m ++ rows_of m) c.args.pen.now c.requires

pub write_labels-requires : goal.write_labels-requires
write_labels-requires g c =
    let m = g.N.Net.model c.args.net.now in
    room_front (labels_of m) (rows_of m) c.write_head.new.pen (room_after (labels_of m ++ rows_of m) c.write_head.ensures c.requires)

pub write_rows-requires : goal.write_rows-requires
write_rows-requires g c =
    let m = g.N.Net.model c.args.net.now in
    room_after (rows_of m) c.write_labels.ensures (room_after (labels_of m ++ rows_of m) c.write_head.ensures c.requires)

pub returns : goal.returns
returns g c = writes_join c.write_head.ensures (writes_join c.write_labels.ensures c.write_rows.ensures)
