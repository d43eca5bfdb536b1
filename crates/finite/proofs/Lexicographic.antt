-- The lexicographic order is a total order.
use Rattle.std.proofs.Common.{◌≡◌, ℕ, ◌<◌, Bool, true, false, ◌&&◌, eqb, ltb, ◌⊎◌, List, [], ◌∷◌, ◌++◌, sym, refl, subst, ap₂, inl, inr, ⊎_elim, arith}
use Rattle.std.proofs.lemmas.Bool.{cases_order, both_ways, or_cases, and_parts, ltb-true, eqb-true, lt-ltb, le-ltb, eq-eqb, or_left, or_right, and_from, not-true, not_from_false, false≢true}
use Rattle.finite.specs.Lexicographic.{lower, at_most}

-- what the test says at two lists that are not empty
pub lower_parts : (x y : ℕ) (xs ys : List ℕ) → lower (x ∷ xs) (y ∷ ys) ≡ true → (x < y) ⊎ ((x ≡ y) × (lower xs ys ≡ true))
unfolding lower
lower_parts x y xs ys h = ⊎_elim (λ l. inl (ltb-true x y l)) (λ r. let (e, l) = and_parts (eqb x y) (lower xs ys) r in inr (eqb-true x y e, l)) (or_cases (ltb x y) (eqb x y && lower xs ys) h)

pub lower_head : (x y : ℕ) (xs ys : List ℕ) → x < y → lower (x ∷ xs) (y ∷ ys) ≡ true
unfolding lower
lower_head x y xs ys h = or_left (ltb x y) _ (lt-ltb x y h)

pub lower_tail : (x y : ℕ) (xs ys : List ℕ) → x ≡ y → lower xs ys ≡ true → lower (x ∷ xs) (y ∷ ys) ≡ true
unfolding lower
lower_tail x y xs ys e h = or_right (ltb x y) _ (and_from (eqb x y) (lower xs ys) (eq-eqb x y e) h)

-- a common front does not matter
pub lower_front : (fs xs ys : List ℕ) → lower (fs ++ xs) (fs ++ ys) ≡ lower xs ys
unfolding lower
lower_front [] xs ys = refl
lower_front (f ∷ fs) xs ys = rw (le-ltb f f (omega arith), eq-eqb f f refl) (lower_front fs xs ys)

from_not_true : (t : Bool) → (t ≡ true → ⊥) → t ≡ false
from_not_true true h = absurd (h refl)
from_not_true false h = refl

lower_self : (xs : List ℕ) → lower xs xs ≡ true → ⊥
unfolding lower
lower_self [] h = false≢true h
lower_self (x ∷ xs) h = ⊎_elim (λ (l : x < x). omega arith) (λ (r : (x ≡ x) × (lower xs xs ≡ true)). lower_self xs r.1) (lower_parts x x xs xs h)

pub lower_irrefl : (xs : List ℕ) → lower xs xs ≡ false
lower_irrefl xs = from_not_true (lower xs xs) (lower_self xs)

pub lower_trans : (xs ys zs : List ℕ) → lower xs ys ≡ true → lower ys zs ≡ true → lower xs zs ≡ true
unfolding lower
lower_trans [] [] zs h k = absurd (false≢true h)
lower_trans (x ∷ xs) [] zs h k = absurd (false≢true h)
lower_trans [] (y ∷ ys) [] h k = absurd (false≢true k)
lower_trans (x ∷ xs) (y ∷ ys) [] h k = absurd (false≢true k)
lower_trans [] (y ∷ ys) (z ∷ zs) h k = refl
lower_trans (x ∷ xs) (y ∷ ys) (z ∷ zs) h k = step (lower_parts x y xs ys h) (lower_parts y z ys zs k) (lower_trans xs ys zs)
  where
    step : (x < y) ⊎ ((x ≡ y) × (lower xs ys ≡ true)) → (y < z) ⊎ ((y ≡ z) × (lower ys zs ≡ true)) → (lower xs ys ≡ true → lower ys zs ≡ true → lower xs zs ≡ true) → lower (x ∷ xs) (z ∷ zs) ≡ true
    step (inl a) (inl b) f = lower_head x z xs zs (omega arith)
    step (inl a) (inr b) f = lower_head x z xs zs (omega arith)
    step (inr a) (inl b) f = lower_head x z xs zs (omega arith)
    step (inr a) (inr b) f = lower_tail x z xs zs (omega arith) (f a.1 b.1)

pub lower_tri : (xs ys : List ℕ) → (lower xs ys ≡ true) ⊎ ((xs ≡ ys) ⊎ (lower ys xs ≡ true))
unfolding lower
lower_tri [] [] = inr (inl refl)
lower_tri [] (y ∷ ys) = inl refl
lower_tri (x ∷ xs) [] = inr (inr refl)
lower_tri (x ∷ xs) (y ∷ ys) = step (cases_order x y) (lower_tri xs ys)
  where
    step : (x ≡ y) ⊎ ((x < y) ⊎ (y < x)) → (lower xs ys ≡ true) ⊎ ((xs ≡ ys) ⊎ (lower ys xs ≡ true)) → (lower (x ∷ xs) (y ∷ ys) ≡ true) ⊎ (((x ∷ xs) ≡ (y ∷ ys)) ⊎ (lower (y ∷ ys) (x ∷ xs) ≡ true))
    step (inl e) (inl l) = inl (lower_tail x y xs ys e l)
    step (inl e) (inr (inl l)) = inr (inl (ap₂ ◌∷◌ e l))
    step (inl e) (inr (inr l)) = inr (inr (lower_tail y x ys xs (sym e) l))
    step (inr (inl l)) r = inl (lower_head x y xs ys l)
    step (inr (inr l)) r = inr (inr (lower_head y x ys xs l))

-- from here on only the three laws of `lower` are used, and nothing unfolds it
pub at_most_anti : (xs ys : List ℕ) → at_most xs ys ≡ true → at_most ys xs ≡ true → xs ≡ ys
at_most_anti xs ys h k = ⊎_elim (λ l. absurd (both_ways (lower xs ys) (not-true _ k) l)) (⊎_elim (λ e. e) (λ l. absurd (both_ways (lower ys xs) (not-true _ h) l))) (lower_tri xs ys)

pub at_most_trans : (xs ys zs : List ℕ) → at_most xs ys ≡ true → at_most ys zs ≡ true → at_most xs zs ≡ true
at_most_trans xs ys zs h k = not_from_false (lower zs xs) (from_not_true (lower zs xs) (λ l. ⊎_elim (λ m. both_ways (lower ys xs) (not-true _ h) (⊎_elim (λ n. absurd (lower_self zs (lower_trans zs xs zs l (lower_trans xs ys zs m n)))) (⊎_elim (λ e. subst (λ y. lower y xs ≡ true) (sym e) l) (λ n. absurd (both_ways (lower zs ys) (not-true _ k) n))) (lower_tri ys zs))) (⊎_elim (λ e. both_ways (lower zs ys) (not-true _ k) (subst (λ x. lower zs x ≡ true) e l)) (λ m. both_ways (lower ys xs) (not-true _ h) m)) (lower_tri xs ys)))

pub at_most_self : (xs : List ℕ) → at_most xs xs ≡ true
at_most_self xs = not_from_false (lower xs xs) (lower_irrefl xs)

-- what stands before does not stand behind
pub lower_not : (xs ys : List ℕ) → lower xs ys ≡ true → lower ys xs ≡ false
lower_not xs ys l = from_not_true (lower ys xs) (λ k. lower_self xs (lower_trans xs ys xs l k))

pub at_most_total : (xs ys : List ℕ) → (at_most xs ys ≡ true) ⊎ (at_most ys xs ≡ true)
at_most_total xs ys =
    ⊎_elim (λ l. inl (not_from_false (lower ys xs) (lower_not xs ys l)))
    (⊎_elim (λ e. inl (subst (λ z. at_most xs z ≡ true) e (at_most_self xs))) (λ l. inr (not_from_false (lower xs ys) (lower_not ys xs l))))
    (lower_tri xs ys)
