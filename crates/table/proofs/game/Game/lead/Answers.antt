use Rattle.std.proofs.Common.{Ok, sym, ap, ◌∙◌}
use Rattle.net.specs.declared.bag.Bag.TheVariants.{Cause}
use Rattle.table.proofs.Shifts.{of_shift, Shifted}
use Rattle.table.proofs.Leads.{is_none, lead_kept}
use Rattle.table.proofs.game.Game.lead.Goals as goal

pub write-requires : goal.write-requires
write-requires c =
    let h = c.half-half.result.now in
    lead_kept c.args.self.now c.args.side c.args.step (is_none _ c.if-is_some.ensures) h c.half-half.ensures
    c.seat.result.0 (c.in_ok-lead.ensures.1 ∙ ap Ok (sym c.seat.ensures))
    c.tokens-tokens.result (of_shift (Shifted c.tokens-tokens.result) c.in_ok-lead.field-0 h c.args.step Cause c.in_ok-lead.ensures.0 c.tokens-tokens.ensures)
