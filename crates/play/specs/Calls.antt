-- What each call says, and what the table is after it. Assumes nothing.
use Rattle.std.specs.Prelude.{ℕ, Bool, true, false, cond, List, [], ◌∷◌, Some, None, Ok, Err, Option, Result, ◌==◌, nat_lt}
use Rattle.arrangement.specs.Seats.{Seated}
use Rattle.play.specs.declared.kinds.Side.{Side}
use Rattle.play.specs.declared.kinds.Sort.{Sort}
use Rattle.play.specs.declared.kinds.Lead.{Lead}
use Rattle.play.specs.declared.refusals.lead.LeadRefusal.{LeadRefusal}
use Rattle.play.specs.declared.refusals.lead.LeadRefusal.TheVariants as lead_refusal
use Rattle.play.specs.declared.refusals.answer.AnswerRefusal.{AnswerRefusal}
use Rattle.play.specs.declared.refusals.answer.AnswerRefusal.TheVariants as answer_refusal
use Rattle.play.specs.declared.refusals.withdraw.WithdrawRefusal.{WithdrawRefusal}
use Rattle.play.specs.declared.refusals.withdraw.WithdrawRefusal.TheVariants as withdraw_refusal
use Rattle.play.specs.Kinds.{across, lead_of}
use Rattle.play.specs.Moves.{most_tokens, numbers, seat_of, covers, moved, undone, total}
use Rattle.play.specs.States.{Sides, Board, State, closed, opened, seated, marking, with_marking, owes}

-- the one or the other, as a call is accepted or refused
abbrev pub if_ok : {T E X : Type 0} → Result T E → X → X → X
if_ok (Ok _) new old = new
if_ok (Err _) new old = old

abbrev pub accepted : {T E : Type 0} → Result T E → Bool
accepted (Ok _) = true
accepted (Err _) = false

-- a lead's move on one side: the seat of what it names
abbrev pub move_says : Seated → List ℕ → Sort → ℕ → Result ℕ LeadRefusal
move_says s tokens k i =
    cond (nat_lt i (numbers s.net k))
    (cond (covers s.net tokens k i)
    (cond (nat_lt most_tokens (total s.net (moved s.net tokens k i))) (Err lead_refusal.TooManyTokens) (Ok (seat_of s k i)))
    (Err lead_refusal.TokensLacking))
    (Err lead_refusal.NoSuchNumber)

-- an answer's move on one side, at the seat that was led with
abbrev pub reply_says : Seated → List ℕ → Sort → ℕ → ℕ → Result (Unit {0}) AnswerRefusal
reply_says s tokens k seat i =
    cond (nat_lt i (numbers s.net k))
    (cond (seat_of s k i == seat)
    (cond (covers s.net tokens k i) (Ok tt) (Err answer_refusal.TokensLacking))
    (Err answer_refusal.OtherSeat))
    (Err answer_refusal.NoSuchNumber)

-- put, take and fire: what is recorded of the lead, and the table after it
abbrev pub lead_by : Option Lead → Result ℕ LeadRefusal → Side → Sort → ℕ → Result Lead LeadRefusal
lead_by (Some d) _ w k i = Err lead_refusal.AnswerOwed
lead_by None (Err e) w k i = Err e
lead_by None (Ok seat) w k i = Ok (lead_of w k i seat)

abbrev pub lead_says : State → Side → Sort → ℕ → Result Lead LeadRefusal
lead_says closed w k i = Err lead_refusal.Closed
lead_says (opened sides b) w k i = lead_by b.owed (move_says (seated sides w) (marking b w) k i) w k i

abbrev pub led_to : Sides → Board → Side → Sort → ℕ → Result Lead LeadRefusal → Board
led_to sides b w k i (Ok d) = with_marking b w (moved (seated sides w).net (marking b w) k i) (Some d)
led_to sides b w k i (Err e) = b

abbrev pub led : State → Side → Sort → ℕ → State
led closed w k i = closed
led (opened sides b) w k i = opened sides (led_to sides b w k i (lead_says (opened sides b) w k i))

-- answer: the same sort of move on the other side, and nothing is owed
abbrev pub answer_says : State → Lead → ℕ → Result (Unit {0}) AnswerRefusal
answer_says closed d i = Err answer_refusal.Closed
answer_says (opened sides b) d i =
    cond (owes b.owed d)
    (reply_says (seated sides (across d.side)) (marking b (across d.side)) d.sort d.seat.0 i)
    (Err answer_refusal.NotOwed)

abbrev pub answered : State → Lead → ℕ → State
answered closed d i = closed
answered (opened sides b) d i =
    opened sides (if_ok (answer_says (opened sides b) d i)
    (with_marking b (across d.side) (moved (seated sides (across d.side)).net (marking b (across d.side)) d.sort i) None) b)

-- withdraw: the leading side is put back, and nothing is owed
abbrev pub withdraw_says : State → Lead → Result (Unit {0}) WithdrawRefusal
withdraw_says closed d = Err withdraw_refusal.Closed
withdraw_says (opened sides b) d = cond (owes b.owed d) (Ok tt) (Err withdraw_refusal.NotOwed)

abbrev pub withdrawn : State → Lead → State
withdrawn closed d = closed
withdrawn (opened sides b) d =
    opened sides (if_ok (withdraw_says (opened sides b) d)
    (with_marking b d.side (undone (seated sides d.side).net (marking b d.side) d.sort d.number) None) b)

-- the calls that change an open table, with any numbers and any dues
pub data Call : Type 0 where
  lead : Side → Sort → ℕ → Call
  answer : Lead → ℕ → Call
  withdraw : Lead → Call

abbrev pub after : State → Call → State
after s (lead w k i) = led s w k i
after s (answer d i) = answered s d i
after s (withdraw d) = withdrawn s d

-- the table after a list of calls
abbrev pub run : State → List Call → State
run s [] = s
run s (c ∷ cs) = run (after s c) cs
