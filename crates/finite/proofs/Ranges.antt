-- What chains of iterators over the numbers below n answer: all, any, sum and count.
use Rattle.std.proofs.Common.{◌≡◌, ℕ, zero, suc, ◌+◌, ◌<◌, Bool, true, false, ◌&&◌, ◌||◌, map, sum, get_or, sym, refl, ap, ◌∙◌, ap₂, inl, inr, zero-add, arith}
use Rattle.std.proofs.lemmas.Bool.{and_parts, and_from, or_cases, or_left, or_right}
use Rattle.std.proofs.lemmas.Iterator.{YieldsList-from_range}
use Rattle.std.proofs.lemmas.Iterator.Search.{all_from_yields_List, any_from_yields_List}
use Rattle.std.proofs.lemmas.List.FromFn.{length-map-range_with_len, get_or-map-range_with_len}
use Rattle.std.proofs.iter.Yields.{nat_range_steps}
use Rattle.std.specs.declared.ops.Range.{Range}
use Rattle.std.specs.Iterator.{ChecksAll, ChecksAny}
use Rattle.std.specs.List.{range_with_len, list_all, list_any}
use Rattle.std.specs.Fn.{Called}
use denote.Param.Members.{Mut}
use Rattle.finite.specs.Below.{all_below, any_below, sum_below}
use Rattle.finite.proofs.Sums.{list_sum, sum_same}
use Rattle.finite.proofs.Tests.{all_none, all_at, all_from, any_at, any_from, same_test}

-- a test of the first number, and then of the others
all_first : (n : ℕ) (f : ℕ → Bool) → (f 0 && all_below n (λ i. f (suc i))) ≡ all_below (suc n) f
all_first n f = same_test _ _
    (λ h. all_from (suc n) f (λ k l. first (and_parts (f 0) (all_below n (λ i. f (suc i))) h) k l))
    (λ h. and_from (f 0) (all_below n (λ i. f (suc i))) (all_at (suc n) f h 0 (omega arith)) (all_from n (λ i. f (suc i)) (λ k l. all_at (suc n) f h (suc k) (omega arith))))
  where
    first : (f 0 ≡ true) × (all_below n (λ i. f (suc i)) ≡ true) → (k : ℕ) → k < suc n → f k ≡ true
    first h zero l = h.0
    first h (suc k) l = all_at n (λ i. f (suc i)) h.1 k (omega arith)

any_first : (n : ℕ) (f : ℕ → Bool) → (f 0 || any_below n (λ i. f (suc i))) ≡ any_below (suc n) f
any_first n f = same_test _ _
    (λ h. elim (or_cases (f 0) (any_below n (λ i. f (suc i))) h) [
      | inl e ↦ any_from (suc n) f 0 (omega arith) e
      | inr e ↦ let r = any_at n (λ i. f (suc i)) e in any_from (suc n) f (suc r.0) (omega (arith, r.1)) r.2
    ])
    (λ h. let r = any_at (suc n) f h in first r.0 r.1 r.2)
  where
    first : (k : ℕ) → k < suc n → f k ≡ true → (f 0 || any_below n (λ i. f (suc i))) ≡ true
    first zero l e = or_left (f 0) (any_below n (λ i. f (suc i))) e
    first (suc k) l e = or_right (f 0) (any_below n (λ i. f (suc i))) (any_from n (λ i. f (suc i)) k (omega arith) e)

-- tests that agree on each number agree on all, and on any
pub all_same : (n : ℕ) (f g : ℕ → Bool) → ((k : ℕ) → k < n → f k ≡ g k) → all_below n f ≡ all_below n g
unfolding all_below
all_same zero f g e = refl
all_same (suc n) f g e = ap₂ ◌&&◌ (all_same n f g (λ k l. e k (omega arith))) (e n (omega arith))

pub any_same : (n : ℕ) (f g : ℕ → Bool) → ((k : ℕ) → k < n → f k ≡ g k) → any_below n f ≡ any_below n g
unfolding any_below
any_same zero f g e = refl
any_same (suc n) f g e = ap₂ ◌||◌ (any_same n f g (λ k l. e k (omega arith))) (e n (omega arith))

any_none : (f : ℕ → Bool) → any_below 0 f ≡ false
unfolding any_below
any_none f = refl

all_listed : (a n : ℕ) (f : ℕ → Bool) → list_all f (range_with_len a n) ≡ all_below n (λ i. f (a + i))
all_listed a zero f = sym (all_none (λ i. f (a + i)))
all_listed a (suc n) f =
    ap₂ ◌&&◌ (ap f (omega arith)) (all_listed (a + 1) n f ∙ all_same n _ _ (λ k _. ap f (omega arith)))
    ∙ all_first n (λ i. f (a + i))

any_listed : (a n : ℕ) (f : ℕ → Bool) → list_any f (range_with_len a n) ≡ any_below n (λ i. f (a + i))
any_listed a zero f = sym (any_none (λ i. f (a + i)))
any_listed a (suc n) f =
    ap₂ ◌||◌ (ap f (omega arith)) (any_listed (a + 1) n f ∙ any_same n _ _ (λ k _. ap f (omega arith)))
    ∙ any_first n (λ i. f (a + i))

-- a closure that says f of each number says whether f holds of all of them, and whether it holds of any
module _ {F : Type 0} {g : Mut F (ℕ × Unit {0}) Bool} (test : ℕ → Bool) (n : ℕ) (u : Range ℕ) (f : F) (r : Bool) where
  pub all_range : ChecksAll nat_range_steps g (record { start = 0; end = n }) f r u →
      ((x : ℕ) (b : Bool) (q : F) → Called g f (x, tt) b q → (q ≡ f) × (b ≡ test x)) → r ≡ all_below n test
  all_range ran says =
      all_from_yields_List test u f r ran (YieldsList-from_range 0 n n refl (omega arith)) says
      ∙ all_listed 0 n test ∙ all_same n _ _ (λ k _. ap test (omega arith))

  pub any_range : ChecksAny nat_range_steps g (record { start = 0; end = n }) f r u →
      ((x : ℕ) (b : Bool) (q : F) → Called g f (x, tt) b q → (q ≡ f) × (b ≡ test x)) → r ≡ any_below n test
  any_range ran says =
      any_from_yields_List test u f r ran (YieldsList-from_range 0 n n refl (omega arith)) says
      ∙ any_listed 0 n test ∙ any_same n _ _ (λ k _. ap test (omega arith))

-- the sum of what f gives for each number
pub sum_range : (n : ℕ) (f : ℕ → ℕ) → sum (map f (range_with_len 0 n)) ≡ sum_below n f
sum_range n f =
    let xs = map f (range_with_len 0 n) in
    list_sum xs ∙ ap (λ (k : ℕ). sum_below k (λ i. get_or xs i 0)) (length-map-range_with_len f 0 n)
    ∙ sum_same n (λ i. get_or xs i 0) f (λ i l. get_or-map-range_with_len f 0 n i i 0 l (zero-add i))
