use Rattle.writer.proofs.Inking.{ink_none}
use Rattle.writer.proofs.pen.Pen.new.Goals as goal

pub returns-clause-empty : goal.returns-clause-empty
returns-clause-empty c = ink_none c.args.buffer.now
