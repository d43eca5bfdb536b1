-- Markings held at the front of a longer list, as loops over places write and sum them.
use Rattle.std.proofs.Common.{◌≡◌, ℕ, ◌+◌, ◌-◌, ◌<◌, ◌≤◌, List, length, take, set, sym, ◌∙◌, subst, ⊎_elim, arith}
use Rattle.std.proofs.lemmas.List.{ext_get_or, get_or-take, length-take-le, get_or-set_same, get_or-set_other}
use Rattle.std.proofs.lemmas.Bool.{cases_eq}
use Rattle.finite.specs.Below.{sum_below}
use Rattle.finite.proofs.Sums.{sum_same}
use Rattle.net.specs.Model.{Model}
use Rattle.arrangement.specs.Arrangements.{at}
use Rattle.play.specs.declared.kinds.Sort.{Sort}
use Rattle.play.specs.Moves.{takes, gives, moved, undone}
use Rattle.play.proofs.Markings.{at_moved, at_undone, moved_long, undone_long}

-- what is held at the front is what the list has there
pub at_held : (ts : List ℕ) (n x : ℕ) → x < n → at (take n ts) x ≡ at ts x
at_held ts n x l = get_or-take n ts x 0 l

-- a list whose front has at each place what a marking has holds it
pub held_is : (n : ℕ) (ts marking : List ℕ) → n ≤ length ts → length marking ≡ n → ((x : ℕ) → x < n → at ts x ≡ at marking x) → take n ts ≡ marking
held_is n ts marking l long h =
    ext_get_or 0 (take n ts) marking (length-take-le n ts l ∙ sym long)
    (λ x j. let k : x < n = omega (arith, length-take-le n ts l) in at_held ts n x k ∙ h x k)

-- a list with the values after a move holds the marking after it
pub is_moved : (m : Model) (marking ts : List ℕ) (k : Sort) (i : ℕ) → m.places ≤ length ts →
    ((x : ℕ) → x < m.places → at ts x ≡ at marking x - takes m k i x + gives m k i x) → take m.places ts ≡ moved m marking k i
is_moved m marking ts k i l h =
    held_is m.places ts (moved m marking k i) l (moved_long m marking k i) (λ x j. h x j ∙ sym (at_moved m marking k i x j))

-- a list with the values before a move holds the marking before it
pub is_undone : (m : Model) (marking ts : List ℕ) (k : Sort) (i : ℕ) → m.places ≤ length ts →
    ((x : ℕ) → x < m.places → at ts x ≡ at marking x - gives m k i x + takes m k i x) → take m.places ts ≡ undone m marking k i
is_undone m marking ts k i l h =
    held_is m.places ts (undone m marking k i) l (undone_long m marking k i) (λ x j. h x j ∙ sym (at_undone m marking k i x j))

-- all that is held
pub held_total : (n : ℕ) (ts : List ℕ) → sum_below n (at (take n ts)) ≡ sum_below n (at ts)
held_total n ts = sum_same n _ _ (λ x l. at_held ts n x l)

-- one more value is written
pub write_more : (ts : List ℕ) (x v : ℕ) (f : ℕ → ℕ) → x < length ts → v ≡ f x → ((y : ℕ) → y < x → at ts y ≡ f y) → (y : ℕ) → y < x + 1 → at (set ts x v) y ≡ f y
write_more ts x v f l e h y k = ⊎_elim
    (λ (z : y ≡ x). subst (λ (w : ℕ). at (set ts x v) w ≡ f w) (sym z) (get_or-set_same ts x v 0 l ∙ e))
    (λ (z : y ≡ x → ⊥). get_or-set_other ts x y v 0 z ∙ h y (omega arith))
    (cases_eq y x)
