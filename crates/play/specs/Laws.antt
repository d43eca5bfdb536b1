-- What is proved of play. Assumes nothing.
use Rattle.std.specs.Prelude.{◌≡◌, ℕ, Err}
use Rattle.net.specs.Model.{Model}
use Rattle.arrangement.specs.Seats.{Sits}
use Rattle.play.specs.declared.kinds.Side.{Side}
use Rattle.play.specs.declared.kinds.Sort.{Sort}
use Rattle.play.specs.declared.kinds.Lead.{Lead}
use Rattle.play.specs.declared.refusals.lead.LeadRefusal.{LeadRefusal}
use Rattle.play.specs.declared.refusals.answer.AnswerRefusal.{AnswerRefusal}
use Rattle.play.specs.declared.refusals.withdraw.WithdrawRefusal.{WithdrawRefusal}
use Rattle.play.specs.States.{Sides, State, opened, bare_board}
use Rattle.play.specs.Calls.{lead_says, led, answer_says, answered, withdraw_says, withdrawn}
use Rattle.play.specs.Fairness.{StaysFair, StaysWithin, StaysWithdrawable}

-- what holds of each table that is newly opened on two nets that sit on one net
abbrev pub OfTables : (State → Type 0) → Type 0
OfTables X = (e : Model) (sides : Sides) → Sits e sides.left → Sits e sides.right → X (opened sides (bare_board sides))

-- a refused call changes nothing
pub record Refusals : Type 0 where
  pub leads : (s : State) (w : Side) (k : Sort) (i : ℕ) (f : LeadRefusal) → lead_says s w k i ≡ Err f → led s w k i ≡ s
  pub answers : (s : State) (d : Lead) (i : ℕ) (f : AnswerRefusal) → answer_says s d i ≡ Err f → answered s d i ≡ s
  pub withdrawals : (s : State) (d : Lead) (f : WithdrawRefusal) → withdraw_says s d ≡ Err f → withdrawn s d ≡ s

pub record PlayLaw : Type 0 where
  pub fair : OfTables StaysFair
  pub within : OfTables StaysWithin
  pub withdraws : OfTables StaysWithdrawable
  pub refusals : Refusals
