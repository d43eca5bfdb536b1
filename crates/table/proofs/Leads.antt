-- A lead leaves what a game keeps.
use Rattle.std.proofs.Common.{◌≡◌, ℕ, false, List, take, Some, None, Ok, Option, is_some, sym, refl, subst}
use mathlib.Core.Logic.{∥∥₁_elim, ∥∥₁_prop}
use Rattle.std.proofs.lemmas.Bool.{false≢true}
use Rattle.net.specs.declared.bag.Bag.TheVariants.{Cause}
use Rattle.arrangement.specs.Seats.{Seated}
use Rattle.play.specs.declared.kinds.Side.{Side}
use Rattle.play.specs.declared.kinds.Move.{Move}
use Rattle.play.specs.Kinds.{lead_of}
use Rattle.play.specs.Moves.{moved}
use Rattle.play.specs.States.{Board, seated, marking, with_marking}
use Rattle.play.specs.Calls.{move_says}
use Rattle.play.specs.Invariant.{Kept}
use Rattle.play.proofs.Kept.{kept_lead}
use Rattle.table.specs.Views.{seated_of, held}
use Rattle.table.specs.Tables.{half_on, sides_in, board_in}
use Rattle.table.specs.declared.half.Half.{Half}
use Rattle.table.specs.declared.game.Game.{Game}
use Rattle.table.proofs.Boards.{of_side}
use Rattle.table.proofs.Shifts.{Shifted}

-- where there is not some, there is none
pub is_none : {A : Type 0} (o : Option A) → false ≡ is_some o → o ≡ None
is_none None e = refl
is_none (Some x) e = absurd (false≢true e)

-- A lead with the move d on the side w of a game with nothing owed; h is the half on that side. Its move is accepted, and these are
-- the tokens after it.
module _ (t : Game) (w : Side) (d : Move) (none : t.owed ≡ None) (h : Half) (on : h ≡ half_on t w)
    (seat : ℕ) (e : move_says (seated_of h) (held h) d.sort d.number ≡ Ok seat) (tokens : List ℕ) (after : Shifted tokens h d Cause) where
  front : take (seated (sides_in t) w).net.places tokens ≡ moved (seated (sides_in t) w).net (marking (board_in t) w) d.sort d.number
  front = of_side (λ (s : Seated) (m : List ℕ). take s.net.places tokens ≡ moved s.net m d.sort d.number) t w h on after

  -- the board with what was led written on it
  abbrev led_with : List ℕ → Board
  led_with m = with_marking (board_in t) w m (Some (lead_of w d.sort d.number seat))

  pub lead_kept : ∥ Kept (sides_in t) (led_with (take (seated (sides_in t) w).net.places tokens)) ∥₁
  lead_kept = ∥∥₁_elim t.kept ∥∥₁_prop (λ x. ∣ subst (λ m. Kept (sides_in t) (led_with m)) (sym front)
      (kept_lead (sides_in t) (board_in t) w d.sort d.number seat x none (of_side (λ s m. move_says s m d.sort d.number ≡ Ok seat) t w h on e)) ∣₁)
