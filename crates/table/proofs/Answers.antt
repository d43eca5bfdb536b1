-- An answer and a withdrawal leave what a game keeps.
use Rattle.std.proofs.Common.{◌≡◌, ℕ, true, List, take, None, Ok, sym, ap, ◌∙◌, subst}
use mathlib.Core.Logic.{∥∥₁_elim, ∥∥₁_prop}
use native.Mathlib.Bridge.{le_prop}
use Rattle.net.specs.declared.bag.Bag.TheVariants.{Cause, Effect}
use Rattle.arrangement.specs.Seats.{Seated}
use Rattle.play.specs.declared.kinds.Side.{Side}
use Rattle.play.specs.declared.kinds.Lead.{Lead}
use Rattle.play.specs.Kinds.{across}
use Rattle.play.specs.Moves.{moved, undone}
use Rattle.play.specs.States.{Board, seated, marking, with_marking, owes}
use Rattle.play.specs.Calls.{reply_says}
use Rattle.play.specs.Invariant.{Kept}
use Rattle.play.proofs.Kept.{kept_answer, kept_withdraw}
use Rattle.play.proofs.Rooms.{withdraw_gave}
use Rattle.table.specs.Views.{net_of, seated_of, held, CoversBag}
use Rattle.table.specs.Tables.{half_on, sides_in, board_in}
use Rattle.table.specs.declared.half.Half.{Half}
use Rattle.table.specs.declared.game.Game.{Game}
use Rattle.table.proofs.Boards.{of_side, of_half, of_facing}
use Rattle.table.proofs.Shifts.{Shifted}

-- the board with a marking written on the side w, and nothing owed
abbrev settled : Game → List ℕ → Side → Board
settled t tokens w = with_marking (board_in t) w (take (seated (sides_in t) w).net.places tokens) None

-- A game that owes an answer to the lead d; h is the half on the side w, across from the lead. The answer's move is accepted, and
-- these are the tokens after it.
module _ (t : Game) (d : Lead) (is : owes t.owed d ≡ true) (w : Side) (facing : w ≡ across d.side) (i : ℕ) (h : Half) (on : h ≡ half_on t w)
    (e : reply_says (seated_of h) (held h) d.sort d.seat.0 i ≡ Ok tt) (tokens : List ℕ) (after : Shifted tokens h (record { sort = d.sort; number = i }) Cause) where
  -- the board after it
  abbrev next : Board
  next = with_marking (board_in t) (across d.side) (moved (seated (sides_in t) (across d.side)).net (marking (board_in t) (across d.side)) d.sort i) None

  is_next : settled t tokens w ≡ next
  is_next = ap (settled t tokens) facing ∙ ap (λ m. with_marking (board_in t) (across d.side) m None)
      (of_facing t w (across d.side) facing h on (λ (s : Seated) (m : List ℕ). take s.net.places tokens ≡ moved s.net m d.sort i) after)

  pub answer_kept : ∥ Kept (sides_in t) (settled t tokens w) ∥₁
  answer_kept = ∥∥₁_elim t.kept ∥∥₁_prop (λ x. ∣ subst (Kept (sides_in t)) (sym is_next)
      (kept_answer (sides_in t) (board_in t) d i x is (of_facing t w (across d.side) facing h on (λ s m. reply_says s m d.sort d.seat.0 i ≡ Ok tt) e)) ∣₁)

-- A game that owes an answer to the lead d; h is the half on the side of the lead.
module _ (t : Game) (d : Lead) (is : owes t.owed d ≡ true) (h : Half) (on : h ≡ half_on t d.side) where
  -- it has what the lead gave it
  pub withdraw_covers : CoversBag (net_of h) (held h) Effect d.sort d.number
  withdraw_covers = of_half (λ (s : Seated) (m : List ℕ). CoversBag s.net m Effect d.sort d.number) t d.side h on
      (λ x l. ∥∥₁_elim t.kept le_prop (λ y. withdraw_gave (sides_in t) (board_in t) d y is x l))

  -- these are the tokens after the lead is taken back
  pub withdraw_kept : (tokens : List ℕ) → Shifted tokens h (record { sort = d.sort; number = d.number }) Effect → ∥ Kept (sides_in t) (settled t tokens d.side) ∥₁
  withdraw_kept tokens before =
      let back = ap (λ m. with_marking (board_in t) d.side m None)
      (of_side (λ (s : Seated) (m : List ℕ). take s.net.places tokens ≡ undone s.net m d.sort d.number) t d.side h on before) in
      ∥∥₁_elim t.kept ∥∥₁_prop (λ x. ∣ subst (Kept (sides_in t)) (sym back) (kept_withdraw (sides_in t) (board_in t) d x is) ∣₁)
