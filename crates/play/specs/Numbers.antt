-- The numbers of the refusals of calls on a table. Assumes nothing.
use Rattle.std.specs.Prelude.{ℕ}
use Rattle.play.specs.declared.refusals.lead.LeadRefusal.{LeadRefusal}
use Rattle.play.specs.declared.refusals.lead.LeadRefusal.TheVariants as lead
use Rattle.play.specs.declared.refusals.answer.AnswerRefusal.{AnswerRefusal}
use Rattle.play.specs.declared.refusals.answer.AnswerRefusal.TheVariants as answer
use Rattle.play.specs.declared.refusals.withdraw.WithdrawRefusal.{WithdrawRefusal}
use Rattle.play.specs.declared.refusals.withdraw.WithdrawRefusal.TheVariants as withdraw
use Rattle.play.specs.declared.refusals.show.ShowRefusal.{ShowRefusal}
use Rattle.play.specs.declared.refusals.show.ShowRefusal.TheVariants as show

abbrev pub lead_number : LeadRefusal → ℕ
lead_number lead.Closed = 42
lead_number lead.AnswerOwed = 43
lead_number lead.NoSuchNumber = 44
lead_number lead.TokensLacking = 45
lead_number lead.TooManyTokens = 46

abbrev pub answer_number : AnswerRefusal → ℕ
answer_number answer.Closed = 42
answer_number answer.NotOwed = 47
answer_number answer.NoSuchNumber = 44
answer_number answer.OtherSeat = 48
answer_number answer.TokensLacking = 45

abbrev pub withdraw_number : WithdrawRefusal → ℕ
withdraw_number withdraw.Closed = 42
withdraw_number withdraw.NotOwed = 47

abbrev pub show_number : ShowRefusal → ℕ
show_number show.Closed = 42
