-- Games and their halves: what is known of the half on a side is known of that side, and what a write leaves room for.
use Rattle.std.proofs.Common.{◌≡◌, ℕ, ◌≤◌, List, take, Option, sym, refl, ap, ◌∙◌, subst, arith}
use mathlib.Core.Logic.{∥∥₁_elim}
use native.Mathlib.Bridge.{le_prop}
use Rattle.arrangement.specs.Seats.{Seated}
use Rattle.play.specs.declared.kinds.Side.{Side}
use Rattle.play.specs.declared.kinds.Side.TheVariants.{Left, Right}
use Rattle.play.specs.declared.kinds.Lead.{Lead}
use Rattle.play.specs.Moves.{most_tokens, total}
use Rattle.play.specs.States.{Sides, Board, seated, marking, with_marking}
use Rattle.play.specs.Invariant.{Kept}
use Rattle.play.proofs.Tokens.{held_total}
use Rattle.play.proofs.Rooms.{kept_room}
use Rattle.table.specs.Views.{seated_of, held}
use Rattle.table.specs.Tables.{half_on, sides_in, board_in}
use Rattle.table.specs.declared.half.Half.{Half}
use Rattle.table.specs.declared.game.Game.{Game}

-- what holds of the half on a side holds of the side, and back
pub of_side : (P : Seated → List ℕ → Type 0) (t : Game) (w : Side) (h : Half) → h ≡ half_on t w → P (seated_of h) (held h) → P (seated (sides_in t) w) (marking (board_in t) w)
of_side P t w h e p = by w (subst (λ h. P (seated_of h) (held h)) e p)
  where
    by : (w : Side) → P (seated_of (half_on t w)) (held (half_on t w)) → P (seated (sides_in t) w) (marking (board_in t) w)
    by Left p = p
    by Right p = p

pub of_half : (P : Seated → List ℕ → Type 0) (t : Game) (w : Side) (h : Half) → h ≡ half_on t w → P (seated (sides_in t) w) (marking (board_in t) w) → P (seated_of h) (held h)
of_half P t w h e p = subst (λ h. P (seated_of h) (held h)) (sym e) (by w p)
  where
    by : (w : Side) → P (seated (sides_in t) w) (marking (board_in t) w) → P (seated_of (half_on t w)) (held (half_on t w))
    by Left p = p
    by Right p = p

-- what holds of the half on a side holds of that side by its other name
pub of_facing : (t : Game) (w v : Side) → w ≡ v → (h : Half) → h ≡ half_on t w → (P : Seated → List ℕ → Type 0) → P (seated_of h) (held h) → P (seated (sides_in t) v) (marking (board_in t) v)
of_facing t w v facing h on P p = of_side P t v h (on ∙ ap (half_on t) facing) p

-- the marking that was written
written : (b : Board) (w : Side) (tokens : List ℕ) (o : Option Lead) → marking (with_marking b w tokens o) w ≡ tokens
written b Left tokens o = refl
written b Right tokens o = refl

-- tokens that may be written leave room
pub write_room : (sides : Sides) (b : Board) (w : Side) (tokens : List ℕ) (o : Option Lead) →
    ∥ Kept sides (with_marking b w (take (seated sides w).net.places tokens) o) ∥₁ → total (seated sides w).net tokens ≤ most_tokens
write_room sides b w tokens o h = ∥∥₁_elim h le_prop (λ h.
    let front = take (seated sides w).net.places tokens in
    omega (arith, kept_room sides (with_marking b w front o) w h, ap (total (seated sides w).net) (written b w front o), held_total (seated sides w).net.places tokens))
