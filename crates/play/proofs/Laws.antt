-- The law of play: what a table keeps holds after every list of calls, and a refused call changes nothing.
use Rattle.std.proofs.Common.{◌≡◌, ℕ, List, [], ◌∷◌, Ok, Err, Result, sym, refl, ap}
use Rattle.play.specs.declared.kinds.Side.{Side}
use Rattle.play.specs.declared.kinds.Sort.{Sort}
use Rattle.play.specs.declared.kinds.Lead.{Lead}
use Rattle.play.specs.declared.refusals.lead.LeadRefusal.{LeadRefusal}
use Rattle.play.specs.declared.refusals.answer.AnswerRefusal.{AnswerRefusal}
use Rattle.play.specs.declared.refusals.withdraw.WithdrawRefusal.{WithdrawRefusal}
use Rattle.play.specs.States.{Sides, Board, State, closed, opened, bare_board}
use Rattle.play.specs.Calls.{if_ok, lead_says, led_to, led, answer_says, answered, withdraw_says, withdrawn, Call, lead, answer, withdraw, run}
use Rattle.play.specs.Fairness.{Fair, StaysFair, Within, StaysWithin, Withdraws, StaysWithdrawable}
use Rattle.play.specs.Invariant.{Kept}
use Rattle.play.specs.Laws.{PlayLaw}
use Rattle.play.proofs.Says.{err_not_ok}
use Rattle.play.proofs.Kept.{answered_to, withdrawn_to, kept_bare, kept_led, kept_answered, kept_withdrawn}
use Rattle.play.proofs.Fair.{kept_fair}
use Rattle.play.proofs.Rooms.{kept_within}
use Rattle.play.proofs.Withdrawals.{kept_withdraws}

-- what holds of every table that keeps what it keeps holds after every list of calls
run_kept : (X : State → Type 0) (sides : Sides) → ((b : Board) → Kept sides b → X (opened sides b)) → (cs : List Call) (b : Board) → Kept sides b → X (run (opened sides b) cs)
run_kept X sides f [] b h = f b h
run_kept X sides f (lead w k i ∷ cs) b h = run_kept X sides f cs (led_to sides b w k i (lead_says (opened sides b) w k i)) (kept_led sides b w k i h)
run_kept X sides f (answer d i ∷ cs) b h = run_kept X sides f cs (answered_to sides b d i) (kept_answered sides b d i h)
run_kept X sides f (withdraw d ∷ cs) b h = run_kept X sides f cs (withdrawn_to sides b d) (kept_withdrawn sides b d h)

-- a table stays fair
pub stays_fair : (sides : Sides) (b : Board) → Kept sides b → StaysFair (opened sides b)
stays_fair sides b h cs = run_kept Fair sides (kept_fair sides) cs b h

-- it stays within the limit
pub stays_within : (sides : Sides) (b : Board) → Kept sides b → StaysWithin (opened sides b)
stays_within sides b h cs = run_kept Within sides (kept_within sides) cs b h

-- each lead on it can be withdrawn
pub stays_withdrawable : (sides : Sides) (b : Board) → Kept sides b → StaysWithdrawable (opened sides b)
stays_withdrawable sides b h cs = run_kept Withdraws sides (kept_withdraws sides) cs b h

-- a refused lead leaves the board
led_to_refused : (sides : Sides) (b : Board) (w : Side) (k : Sort) (i : ℕ) (v : Result Lead LeadRefusal) (f : LeadRefusal) → v ≡ Err f → led_to sides b w k i v ≡ b
led_to_refused sides b w k i (Ok d) f e = err_not_ok f d (sym e)
led_to_refused sides b w k i (Err g) f e = refl

-- a refused answer or withdrawal leaves the board
if_ok_refused : {F : Type 0} (v : Result (Unit {0}) F) (new old : Board) (f : F) → v ≡ Err f → if_ok v new old ≡ old
if_ok_refused (Ok u) new old f e = err_not_ok f u (sym e)
if_ok_refused (Err g) new old f e = refl

-- a refused lead changes nothing
pub refused_leads : (s : State) (w : Side) (k : Sort) (i : ℕ) (f : LeadRefusal) → lead_says s w k i ≡ Err f → led s w k i ≡ s
refused_leads closed w k i f e = refl
refused_leads (opened sides b) w k i f e = ap (opened sides) (led_to_refused sides b w k i (lead_says (opened sides b) w k i) f e)

-- nor does a refused answer
pub refused_answers : (s : State) (d : Lead) (i : ℕ) (f : AnswerRefusal) → answer_says s d i ≡ Err f → answered s d i ≡ s
refused_answers closed d i f e = refl
refused_answers (opened sides b) d i f e = ap (opened sides) (if_ok_refused (answer_says (opened sides b) d i) _ b f e)

-- nor does a refused withdrawal
pub refused_withdrawals : (s : State) (d : Lead) (f : WithdrawRefusal) → withdraw_says s d ≡ Err f → withdrawn s d ≡ s
refused_withdrawals closed d f e = refl
refused_withdrawals (opened sides b) d f e = ap (opened sides) (if_ok_refused (withdraw_says (opened sides b) d) _ b f e)

-- the law of play
pub play_law : PlayLaw
play_law =
    record {
      fair = λ e sides x y. stays_fair sides (bare_board sides) (kept_bare e sides x y);
      within = λ e sides x y. stays_within sides (bare_board sides) (kept_bare e sides x y);
      withdraws = λ e sides x y. stays_withdrawable sides (bare_board sides) (kept_bare e sides x y);
      refusals = record { leads = refused_leads; answers = refused_answers; withdrawals = refused_withdrawals };
    }
