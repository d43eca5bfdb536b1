use Rattle.std.proofs.Common.{sym, ◌∙◌, subst}
use Rattle.net.specs.declared.bag.Bag.TheVariants.{Effect}
use Rattle.play.specs.declared.kinds.Move.{Move}
use Rattle.table.specs.Views.{net_of, held, CoversBag}
use Rattle.table.proofs.Shifts.{of_shift, Shifted}
use Rattle.table.proofs.Answers.{withdraw_covers, withdraw_kept}
use Rattle.table.proofs.game.Game.withdraw.Goals as goal

pub undo-requires : goal.undo-requires
undo-requires c =
    let h = c.half.result.now in
    subst (λ (d : Move). CoversBag (net_of h) (held h) Effect d.sort d.number) (sym c.step.ensures) (withdraw_covers c.args.self.now c.args.lead (sym c.if-not-owes.ensures) h c.half.ensures)

pub write-requires : goal.write-requires
write-requires c =
    let h = c.half.result.now in
    withdraw_kept c.args.self.now c.args.lead (sym c.if-not-owes.ensures) h c.half.ensures
    c.tokens-tokens.result (of_shift (Shifted c.tokens-tokens.result) c.undo.result h _ Effect (record { half = c.undo.ensures.half; step = c.undo.ensures.step ∙ c.step.ensures; off = c.undo.ensures.off }) c.tokens-tokens.ensures)
