-- Counts of the numbers below n that pass a test.
use Rattle.std.proofs.Common.{◌≡◌, ℕ, zero, suc, ◌+◌, ◌<◌, ◌≤◌, Bool, true, false, cond, ◌⊎◌, sym, refl, ap, ◌∙◌, subst, inl, inr, add-one, arith}
use Rattle.std.proofs.lemmas.Bool.{cases_eq, cases_lt, cases_order, cases_Bool, cond-true, cond-false, true≢false}
use Rattle.finite.specs.Below.{sum_below, count_below}
use Rattle.finite.proofs.Sums.{sum_same, sum_zero, sum_le, sum_lt}

pub count_none : (f : ℕ → Bool) → count_below 0 f ≡ 0
unfolding count_below
count_none f = refl

pub count_yes : (n : ℕ) (f : ℕ → Bool) → f n ≡ true → count_below (n + 1) f ≡ count_below n f + 1
unfolding count_below
count_yes n f h = rw (add-one n, h) refl

pub count_no : (n : ℕ) (f : ℕ → Bool) → f n ≡ false → count_below (n + 1) f ≡ count_below n f
unfolding count_below
count_no n f h = rw (add-one n, h) (omega arith)

-- a count is a sum
pub count_sum : (n : ℕ) (f : ℕ → Bool) → count_below n f ≡ sum_below n (λ i. cond (f i) 1 0)
unfolding count_below sum_below
count_sum zero f = refl
count_sum (suc n) f = ap (λ (k : ℕ). k + cond (f n) 1 0) (count_sum n f)

pub count_same : (n : ℕ) (f g : ℕ → Bool) → ((i : ℕ) → i < n → f i ≡ g i) → count_below n f ≡ count_below n g
count_same n f g h = count_sum n f ∙ sum_same n _ _ (λ i l. ap (λ b. cond b 1 0) (h i l)) ∙ sym (count_sum n g)

cond_le : (s t : Bool) → (s ≡ true → t ≡ true) → ◌≤◌ (cond s 1 0) (cond t 1 0)
cond_le true t h = rw (h refl) (omega arith)
cond_le false t h = omega arith

cond_lt : (s t : Bool) → s ≡ false → t ≡ true → ◌<◌ (cond s 1 0) (cond t 1 0)
cond_lt s t e f = rw (e, f) (omega arith)

pub count_le : (n : ℕ) (f g : ℕ → Bool) → ((i : ℕ) → i < n → f i ≡ true → g i ≡ true) → count_below n f ≤ count_below n g
count_le n f g h = omega (arith, count_sum n f, count_sum n g, sum_le n (λ i. cond (f i) 1 0) (λ i. cond (g i) 1 0) (λ i l. cond_le (f i) (g i) (h i l)))

-- one more passes g
pub count_lt : (n : ℕ) (f g : ℕ → Bool) → ((i : ℕ) → i < n → f i ≡ true → g i ≡ true) → (j : ℕ) → j < n → f j ≡ false → g j ≡ true → count_below n f < count_below n g
count_lt n f g h j l fails passes =
    omega (
      arith,
      count_sum n f,
      count_sum n g,
      sum_lt n (λ i. cond (f i) 1 0) (λ i. cond (g i) 1 0) (λ i l. cond_le (f i) (g i) (h i l)) j l (cond_lt (f j) (g j) fails passes),
    )

-- none passes
pub count_zero : (n : ℕ) (f : ℕ → Bool) → ((i : ℕ) → i < n → f i ≡ false) → count_below n f ≡ 0
count_zero n f h = count_sum n f ∙ sum_zero n _ (λ i l. cond-false {A = ℕ} (f i) 1 0 (h i l))

-- a count from the front
pub count_front : (n : ℕ) (f : ℕ → Bool) → count_below (suc n) f ≡ count_below n (λ i. f (suc i)) + cond (f 0) 1 0
unfolding count_below
count_front zero f = refl
count_front (suc n) f = omega (arith, count_front n f)

count_step : (n : ℕ) (f : ℕ → Bool) → ((f n ≡ true) × (count_below (suc n) f ≡ suc (count_below n f))) ⊎ ((f n ≡ false) × (count_below (suc n) f ≡ count_below n f))
unfolding count_below
count_step n f = elim (cases_Bool (f n)) [ inl e ↦ inl (e, omega (arith, cond-true {A = ℕ} (f n) 1 0 e)) | inr e ↦ inr (e, omega (arith, cond-false {A = ℕ} (f n) 1 0 e)) ]

pub count_most : (n : ℕ) (f : ℕ → Bool) → count_below n f ≤ n
count_most zero f = omega (arith, count_none f)
count_most (suc n) f = elim (count_step n f) [ inl e ↦ omega (arith, count_most n f) | inr e ↦ omega (arith, count_most n f) ]

-- those below p that pass, where p < n passes too
pub count_up : (n : ℕ) (f : ℕ → Bool) (p : ℕ) → p < n → f p ≡ true → count_below p f < count_below n f
count_up zero f p l h = absurd (omega arith)
count_up (suc n) f p l h = elim (count_step n f) [
  | inl e ↦
      elim (cases_eq p n) [
        | inl q ↦ subst (λ x. count_below x f < count_below (suc n) f) (sym q) (omega arith)
        | inr q ↦ omega (arith, count_up n f p (omega arith) h)
      ]
  | inr e ↦
      elim (cases_eq p n) [
        | inl q ↦ let z : true ≡ false = sym h ∙ ap f q ∙ e.0 in absurd (true≢false z)
        | inr q ↦ omega (arith, count_up n f p (omega arith) h)
      ]
]

-- p passes after i others
pub record Nth (n : ℕ) (f : ℕ → Bool) (i p : ℕ) : Type 0 where
  pub lands : p < n
  pub passes : f p ≡ true
  pub after : count_below p f ≡ i

pub nth : (n : ℕ) (f : ℕ → Bool) (i : ℕ) → i < count_below n f → (p : ℕ) × Nth n f i p
nth zero f i l = absurd (omega (arith, count_none f))
nth (suc n) f i l =
    elim (cases_lt i (count_below n f)) [
      | inl k ↦ let r = nth n f i k in (r.0, record { lands = omega (arith, r.1.lands); passes = r.1.passes; after = r.1.after })
      | inr k ↦
          elim (count_step n f) [
            | inl e ↦ (n, record { lands = omega arith; passes = e.0; after = omega arith })
            | inr e ↦ absurd (omega arith)
          ]
    ]

pub nth_one : (n : ℕ) (f : ℕ → Bool) (i p q : ℕ) → Nth n f i p → Nth n f i q → p ≡ q
nth_one n f i p q a b =
    elim (cases_order p q) [
      | inl e ↦ e
      | inr (inl l) ↦ absurd (omega (arith, count_up q f p l a.passes, a.after, b.after))
      | inr (inr l) ↦ absurd (omega (arith, count_up p f q l b.passes, a.after, b.after))
    ]
