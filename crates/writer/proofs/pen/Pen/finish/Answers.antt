use Rattle.std.proofs.Common.{sym, subst, arith}
use Rattle.format.specs.Fields.{size}
use Rattle.writer.specs.declared.pen.Pen.{Pen}
use Rattle.writer.specs.Ink.{Filled}
use Rattle.writer.proofs.Filling.{filled_push, filled_still}
use Rattle.writer.proofs.pen.Pen.finish.Goals as goal
use Rattle.writer.proofs.pen.Pen.finish.Goals.{then-self-gt0, else-self-gt0}

pub push-requires-clause-room : goal.push-requires-clause-room
unfolding size
push-requires-clause-room c = omega (arith, c.requires, c.if-self-gt0.true, c.args.self.now.short)

pub returns-clause-filled : goal.returns-clause-filled
returns-clause-filled c = elim c.if-self-gt0.branch [
  | then-self-gt0 w ↦ subst (λ (q : Pen). Filled c.args.self.now q.at q.buffer.now) (sym w.self-is) (filled_push w.push.ensures w.if-self-gt0.true)
  | else-self-gt0 w ↦ subst (λ (q : Pen). Filled c.args.self.now q.at q.buffer.now) (sym w.self-is) (filled_still c.args.self.now (omega (arith, w.if-self-gt0.false)))
]
