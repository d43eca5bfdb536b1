-- Searches below n: the lowest number that passes a test, and where one of two functions is the greater.
use Rattle.std.proofs.Common.{◌≡◌, ℕ, zero, suc, ◌<◌, ◌≤◌, Bool, true, false, cond, ltb, ◌⊎◌, sym, refl, ap, ◌∙◌, subst, ap₂, inl, inr, ⊎_elim, arith}
use Rattle.std.proofs.lemmas.Bool.{cases_eq, cases_lt, cases_order, both_ways, lt-ltb, le-ltb, cond-true, cond-false}
use Rattle.finite.specs.Below.{sum_below, first_below}

-- i is the lowest number below n that passes f
pub record Found (n : ℕ) (f : ℕ → Bool) (i : ℕ) : Type 0 where
  pub lands : i < n
  pub passes : f i ≡ true
  pub least : (j : ℕ) → j < i → f j ≡ false

pub first_cases : (n : ℕ) (f : ℕ → Bool) → Found n f (first_below n f) ⊎ ((first_below n f ≡ n) × ((j : ℕ) → j < n → f j ≡ false))
unfolding first_below
first_cases zero f = inr (refl, λ j l. absurd (omega arith))
first_cases (suc n) f = step (first_cases n f)
  where
    Goal : ℕ → Type 0
    Goal x = Found (suc n) f x ⊎ ((x ≡ suc n) × ((j : ℕ) → j < suc n → f j ≡ false))

    last : first_below n f ≡ n → ((j : ℕ) → j < n → f j ≡ false) → (b : Bool) → f n ≡ b → Goal (cond b n (suc n))
    last e h true y = inl (record { lands = omega arith; passes = y; least = h })
    last e h false y = inr (refl, λ j l. ⊎_elim (λ (z : j ≡ n). ap f z ∙ y) (λ z. h j (omega arith)) (cases_eq j n))

    step : Found n f (first_below n f) ⊎ ((first_below n f ≡ n) × ((j : ℕ) → j < n → f j ≡ false)) → Goal (first_below (suc n) f)
    step (inl r) =
        subst Goal (sym (cond-true (ltb (first_below n f) n) _ _ (lt-ltb _ _ r.lands)))
        (inl (record { lands = omega (arith, r.lands); passes = r.passes; least = r.least }))
    step (inr r) = subst Goal (sym (cond-false (ltb (first_below n f) n) _ _ (le-ltb _ _ (omega (arith, r.0))))) (last r.0 r.1 (f n) refl)

pub first_finds : (n : ℕ) (f : ℕ → Bool) (i : ℕ) → i < n → f i ≡ true → Found n f (first_below n f)
first_finds n f i l h = ⊎_elim (λ r. r) (λ r. absurd (both_ways (f i) (r.1 i l) h)) (first_cases n f)

-- there is one lowest
pub found_one : (n k : ℕ) (f : ℕ → Bool) (i j : ℕ) → Found n f i → Found k f j → i ≡ j
found_one n k f i j a b =
    elim (cases_order i j) [
      | inl e ↦ e
      | inr (inl l) ↦ absurd (both_ways (f i) (b.least i l) a.passes)
      | inr (inr l) ↦ absurd (both_ways (f j) (a.least j l) b.passes)
    ]

pub first_is : (n : ℕ) (f : ℕ → Bool) (i : ℕ) → Found n f i → first_below n f ≡ i
first_is n f i a = found_one n n f _ i (first_finds n f i a.lands a.passes) a

pub first_same : (n : ℕ) (f g : ℕ → Bool) → ((i : ℕ) → i < n → f i ≡ g i) → first_below n f ≡ first_below n g
unfolding first_below
first_same zero f g h = refl
first_same (suc n) f g h =
    ap₂ (λ (x : ℕ) (b : Bool). cond (ltb x n) x (cond b n (suc n))) (first_same n f g (λ i l. h i (omega arith))) (h n (omega arith))

-- a number at which f is the greater, or none
pub find_more : (n : ℕ) (f g : ℕ → ℕ) → ((i : ℕ) × (i < n) × (g i < f i)) ⊎ ((i : ℕ) → i < n → f i ≤ g i)
find_more zero f g = inr (λ i l. absurd (omega arith))
find_more (suc n) f g = at (find_more n f g) (cases_lt (g n) (f n))
  where
    at :
        ((i : ℕ) × (i < n) × (g i < f i)) ⊎ ((i : ℕ) → i < n → f i ≤ g i) →
        (g n < f n) ⊎ (f n ≤ g n) →
        ((i : ℕ) × (i < suc n) × (g i < f i)) ⊎ ((i : ℕ) → i < suc n → f i ≤ g i)
    at (inl r) c = inl (r.0, omega arith, r.2)
    at (inr h) (inl c) = inl (n, omega arith, c)
    at (inr h) (inr c) = inr (λ i l. elim (cases_eq i n) [ inl e ↦ subst (λ x. f x ≤ g x) (sym e) c | inr e ↦ h i (omega arith) ])

-- where the sum of g is the greater, so is one of its terms
pub find_less : (n : ℕ) (f g : ℕ → ℕ) → sum_below n f < sum_below n g → (i : ℕ) × (i < n) × (f i < g i)
unfolding sum_below
find_less zero f g h = absurd (omega arith)
find_less (suc n) f g h =
    elim (cases_lt (f n) (g n)) [
      | inl e ↦ (n, omega arith, e)
      | inr e ↦ let r = find_less n f g (omega arith) in (r.0, omega arith, r.2)
    ]

-- where a term of f is too great and the sum is not, another term is too small
pub find_short : (n : ℕ) (f g : ℕ → ℕ) → sum_below n f ≤ sum_below n g → (p : ℕ) → p < n → g p < f p → (i : ℕ) × (i < n) × (f i < g i)
unfolding sum_below
find_short zero f g h p l s = absurd (omega arith)
find_short (suc n) f g h p l s =
    elim (cases_lt (f n) (g n)) [
      | inl e ↦ (n, omega arith, e)
      | inr e ↦
          elim (cases_eq p n) [
            | inl i ↦ let r = find_less n f g (omega (arith, ap f i, ap g i)) in (r.0, omega arith, r.2)
            | inr i ↦ let r = find_short n f g (omega arith) p (omega arith) s in (r.0, omega arith, r.2)
          ]
    ]
