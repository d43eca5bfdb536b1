use Rattle.std.proofs.Common.{sym, ◌∙◌}
use Rattle.table.proofs.Suggestions.{allows_accepted}
use Rattle.table.proofs.half.Half.accepts.Goals as goal

pub returns : goal.returns
returns c = c.is_ok.ensures.value ∙ sym (allows_accepted _ _ _ _ _ c.reply.ensures)
