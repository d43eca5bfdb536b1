use Rattle.std.proofs.Common.{◌∙◌, arith}
use Rattle.format.specs.Fields.{size}
use Rattle.writer.proofs.Writing.{writes_join, writes_value}
use Rattle.writer.proofs.write.write_head.Goals as goal

pub push-requires-clause-room : goal.push-requires-clause-room
unfolding size
push-requires-clause-room g c = omega (arith, c.requires)

pub push-requires-2-clause-room : goal.push-requires-2-clause-room
unfolding size
push-requires-2-clause-room g c = omega (arith, c.requires, c.push.ensures.sized, c.push.ensures.long)

pub push-requires-3-clause-room : goal.push-requires-3-clause-room
unfolding size
push-requires-3-clause-room g c = omega (arith, c.requires, c.push.ensures.sized, c.push.ensures.long, c.push-2.ensures.sized, c.push-2.ensures.long)

pub returns : goal.returns
returns g c =
    writes_join (writes_value c.from.ensures c.push.ensures)
    (writes_join (writes_value (c.from-2.ensures ∙ c.places.ensures) c.push-2.ensures)
    (writes_value (c.from-3.ensures ∙ c.transitions.ensures) c.push-3.ensures))
