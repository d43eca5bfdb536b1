use Rattle.std.proofs.Common.{rules}
use Rattle.writer.proofs.Whole.{room_start, room_end, written}
use Rattle.writer.proofs.write.write.Goals as goal

pub write_fields-requires : goal.write_fields-requires
write_fields-requires g c =
    room_start (g.N.Net.model c.args.net.now) (g.N.Net.lawful c.args.net.now) c.args.buffer.now c.new-pen.result c.new-pen.ensures.empty c.if-room-lt-LONGEST_SHEET.false

pub finish-requires : goal.finish-requires
finish-requires g c =
    room_end (g.N.Net.model c.args.net.now) (g.N.Net.lawful c.args.net.now) c.args.buffer.now c.new-pen.result c.new-pen.ensures.empty c.if-room-lt-LONGEST_SHEET.false c.write_fields.ensures

pub returns : goal.returns
returns g c =
    written (g.N.Net.model c.args.net.now) (g.N.Net.lawful c.args.net.now) c.args.buffer.now c.finish.result c.finish.new.self.buffer.now
    c.if-room-lt-LONGEST_SHEET.false c.new-pen.ensures.empty c.write_fields.ensures c.finish.ensures.filled (search rules)
