-- The tokens after a shift, as those after its move or before it.
use Rattle.std.proofs.Common.{◌≡◌, ℕ, ◌<◌, ◌≤◌, List, length, take, subst}
use Rattle.net.specs.Model.{Model}
use Rattle.net.specs.declared.bag.Bag.{Bag}
use Rattle.net.specs.declared.bag.Bag.TheVariants.{Cause, Effect}
use Rattle.arrangement.specs.Arrangements.{at}
use Rattle.play.specs.declared.kinds.Sort.{Sort}
use Rattle.play.specs.declared.kinds.Move.{Move}
use Rattle.play.specs.Moves.{total}
use Rattle.play.proofs.Markings.{at_moved, at_undone}
use Rattle.play.proofs.Tokens.{is_moved, is_undone}
use Rattle.finite.specs.Below.{sum_below}
use Rattle.finite.proofs.Sums.{sum_same}
use Rattle.table.specs.Views.{net_of, held, count_after, shifted}
use Rattle.table.specs.Shifts.{IsShift}
use Rattle.table.specs.declared.half.Half.{Half}
use Rattle.table.specs.declared.half.shift.Shift.{Shift}

-- what a call ensures of a shift holds of the side, the move and the bag that the shift has
pub of_shift : (P : Half → Move → Bag → Type 0) (s : Shift) (h : Half) (d : Move) (bag : Bag) → IsShift s h d bag → P s.half.now s.step s.off → P h d bag
of_shift P s h d bag e x = subst (λ h. P h d bag) e.half (subst (λ d. P s.half.now d bag) e.step (subst (λ b. P s.half.now s.step b) e.off x))

-- these are the tokens after the shift
abbrev pub Shifted : List ℕ → Half → Move → Bag → Type 0
Shifted tokens h d bag = take (net_of h).places tokens ≡ shifted (net_of h) (held h) bag d.sort d.number

-- a list with the values after a shift holds the marking after it
pub is_shifted : (m : Model) (marking ts : List ℕ) (off : Bag) (k : Sort) (i : ℕ) → m.places ≤ length ts →
    ((x : ℕ) → x < m.places → at ts x ≡ count_after m marking off k i x) → take m.places ts ≡ shifted m marking off k i
is_shifted m marking ts Cause k i l h = is_moved m marking ts k i l h
is_shifted m marking ts Effect k i l h = is_undone m marking ts k i l h

-- all the tokens after a shift, place by place
pub shifted_total : (m : Model) (tokens : List ℕ) (off : Bag) (k : Sort) (i : ℕ) → total m (shifted m tokens off k i) ≡ sum_below m.places (count_after m tokens off k i)
shifted_total m tokens Cause k i = sum_same m.places _ _ (λ x l. at_moved m tokens k i x l)
shifted_total m tokens Effect k i = sum_same m.places _ _ (λ x l. at_undone m tokens k i x l)
