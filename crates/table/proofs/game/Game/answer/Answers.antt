use Rattle.net.specs.declared.bag.Bag.TheVariants.{Cause}
use Rattle.table.proofs.Shifts.{of_shift, Shifted}
use Rattle.std.proofs.Common.{sym}
use Rattle.table.proofs.Answers.{answer_kept}
use Rattle.table.proofs.game.Game.answer.Goals as goal

pub write-requires : goal.write-requires
write-requires c =
    let h = c.half.result.now in
    answer_kept c.args.self.now c.args.lead (sym c.if-not-owes.ensures) c.other-side.result c.other-side.ensures c.args.number h c.half.ensures
    c.in_ok-reply.ensures.1 c.tokens-tokens.result (of_shift (Shifted c.tokens-tokens.result) c.in_ok-reply.field-0 h _ Cause c.in_ok-reply.ensures.0 c.tokens-tokens.ensures)
