-- The suggestion of a game that owes an answer: the lowest number that is accepted, and there is one.
use Rattle.std.proofs.Common.{◌≡◌, ℕ, ◌<◌, Bool, true, false, is_ok, Some, None, Option, MatchOption, Ok, Err, Result, sym, refl, ap, ◌∙◌}
use mathlib.Core.HLevel.{⊥_prop}
use mathlib.Core.Logic.{∥∥₁_elim}
use Rattle.std.proofs.lemmas.Bool.{cond-true, false≢true}
use Rattle.finite.proofs.Searches.{first_is}
use Rattle.arrangement.specs.Seats.{Seated}
use Rattle.play.specs.declared.kinds.Side.{Side}
use Rattle.play.specs.declared.kinds.Move.{Move}
use Rattle.play.specs.declared.kinds.Lead.{Lead}
use Rattle.play.specs.Kinds.{across}
use Rattle.play.specs.Moves.{numbers}
use Rattle.play.specs.States.{opened}
use Rattle.play.specs.Calls.{accepted, reply_says, answer_says}
use Rattle.play.specs.Shows.{suggestion_for}
use Rattle.play.proofs.Leads.{is_owed}
use Rattle.play.proofs.Suggestions.{kept_suggests}
use Rattle.table.specs.Views.{net_of, seated_of, held}
use Rattle.table.specs.Tables.{half_on, sides_in, board_in}
use Rattle.table.specs.Shifts.{Allows}
use Rattle.table.specs.declared.half.Half.{Half}
use Rattle.table.specs.declared.half.shift.Shift.{Shift}
use Rattle.table.specs.declared.game.Game.{Game}
use Rattle.table.proofs.Boards.{of_facing}

-- a result that is as `says` says passes the test as `says` does
pub allows_accepted : {T E : Type 0} (r : Result Shift E) (h : Half) (d : Move) (x : T) (says : Result T E) → Allows r h d x says → accepted says ≡ is_ok r
allows_accepted (Ok s) h d x says e = ap accepted e.1
allows_accepted (Err f) h d x says e = ap accepted e

-- A game that owes an answer to the lead d; h is the half on the side w, across from the lead.
module _ (t : Game) (d : Lead) (e : t.owed ≡ Some d) (w : Side) (facing : w ≡ across d.side) (h : Half) (on : h ≡ half_on t w) where
  -- the test of the half is that of the game
  abbrev replies : ℕ → Bool
  replies i = accepted (reply_says (seated_of h) (held h) d.sort d.seat.0 i)

  answers : (i : ℕ) → accepted (answer_says (opened (sides_in t) (board_in t)) d i) ≡ replies i
  answers i = ap accepted (cond-true _ _ _ (is_owed t.owed d e) ∙ of_facing t w (across d.side) facing h on (λ s m. reply_says s m d.sort d.seat.0 i ≡ reply_says (seated_of h) (held h) d.sort d.seat.0 i) refl)

  -- the lowest number that passes is suggested
  suggest_is : (i : ℕ) → i < numbers (net_of h) d.sort → replies i ≡ true → ((j : ℕ) → j < i → replies j ≡ false) → Some i ≡ suggestion_for (sides_in t) (board_in t) t.owed
  suggest_is i l here below =
      sym (ap (λ x. suggestion_for (sides_in t) (board_in t) x) e
      ∙ ap (λ (x : ℕ). Some x) (first_is _ _ i (record {
        lands = of_facing t w (across d.side) facing h on (λ (s : Seated) _. i < numbers s.net d.sort) l;
        passes = answers i ∙ here;
        least = λ j k. answers j ∙ below j k;
      })))

  -- and some number passes
  suggest_some : ((j : ℕ) → j < numbers (net_of h) d.sort → replies j ≡ false) → ⊥
  suggest_some none = ∥∥₁_elim t.kept ⊥_prop (λ x.
      let f = kept_suggests (sides_in t) (board_in t) d x e in
      let fails = of_facing t w (across d.side) facing h on (λ (s : Seated) _. (j : ℕ) → j < numbers s.net d.sort → replies j ≡ false) none in
      false≢true (sym (answers _ ∙ fails _ f.lands) ∙ f.passes))

  -- so what a search finds is suggested
  pub suggested : (r : Option ℕ) → MatchOption r ((j : ℕ) → j < numbers (net_of h) d.sort → replies j ≡ false) (λ i. (i < numbers (net_of h) d.sort) × (replies i ≡ true) × ((j : ℕ) → j < i → replies j ≡ false)) →
      r ≡ suggestion_for (sides_in t) (board_in t) t.owed
  suggested None x = absurd (suggest_some x)
  suggested (Some i) x = suggest_is i x.0 x.1 x.2
