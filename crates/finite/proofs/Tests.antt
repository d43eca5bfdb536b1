-- Tests over the numbers below n.
use Rattle.std.proofs.Common.{◌≡◌, ℕ, zero, suc, ◌+◌, ◌<◌, Bool, true, false, sym, refl, ap, ◌∙◌, inl, inr, ⊎_elim, add-one, arith}
use Rattle.std.proofs.lemmas.Bool.{and_parts, and_from, and_left, and_right, or_cases, or_left, or_right, false≢true, cases_eq}
use Rattle.finite.specs.Below.{all_below, any_below}

pub all_none : (f : ℕ → Bool) → all_below 0 f ≡ true
unfolding all_below
all_none f = refl

pub all_more : (n : ℕ) (f : ℕ → Bool) → all_below n f ≡ true → f n ≡ true → all_below (n + 1) f ≡ true
unfolding all_below
all_more n f h e = rw add-one (and_from (all_below n f) (f n) h e)

pub all_at : (n : ℕ) (f : ℕ → Bool) → all_below n f ≡ true → (k : ℕ) → k < n → f k ≡ true
unfolding all_below
all_at zero f e k h = absurd (omega arith)
all_at (suc n) f e k h =
    let b = and_parts (all_below n f) (f n) e in
    ⊎_elim (λ (q : k ≡ n). ap f q ∙ b.1) (λ (q : k ≡ n → ⊥). all_at n f b.0 k (omega arith)) (cases_eq k n)

pub all_from : (n : ℕ) (f : ℕ → Bool) → ((k : ℕ) → k < n → f k ≡ true) → all_below n f ≡ true
unfolding all_below
all_from zero f h = refl
all_from (suc n) f h = and_from (all_below n f) (f n) (all_from n f (λ k l. h k (omega arith))) (h n (omega arith))

-- one number that fails the test fails them all
pub all_fails : (n : ℕ) (f : ℕ → Bool) (k : ℕ) → k < n → f k ≡ false → all_below n f ≡ false
unfolding all_below
all_fails zero f k h e = absurd (omega arith)
all_fails (suc n) f k h e = ⊎_elim
    (λ (q : k ≡ n). and_right (all_below n f) (f n) (ap f (sym q) ∙ e))
    (λ (q : k ≡ n → ⊥). and_left (all_below n f) (f n) (all_fails n f k (omega arith) e))
    (cases_eq k n)

pub any_at : (n : ℕ) (f : ℕ → Bool) → any_below n f ≡ true → (k : ℕ) × (k < n) × (f k ≡ true)
unfolding any_below
any_at zero f h = absurd (false≢true h)
any_at (suc n) f h =
    elim (or_cases (any_below n f) (f n) h) [
      | inl e ↦ let r = any_at n f e in (r.0, omega arith, r.2)
      | inr e ↦ (n, omega arith, e)
    ]

pub any_from : (n : ℕ) (f : ℕ → Bool) (k : ℕ) → k < n → f k ≡ true → any_below n f ≡ true
unfolding any_below
any_from zero f k l h = absurd (omega arith)
any_from (suc n) f k l h =
    elim (cases_eq k n) [
      | inl e ↦ or_right (any_below n f) (f n) (ap f (sym e) ∙ h)
      | inr e ↦ or_left (any_below n f) (f n) (any_from n f k (omega arith) h)
    ]

-- two tests of one fact are one
pub same_test : (a b : Bool) → (a ≡ true → b ≡ true) → (b ≡ true → a ≡ true) → a ≡ b
same_test true b f g = sym (f refl)
same_test false true f g = g refl
same_test false false f g = refl
