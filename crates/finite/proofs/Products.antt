-- Products over the numbers below n.
use Rattle.std.proofs.Common.{◌≡◌, ℕ, zero, suc, ◌+◌, ◌*◌, ◌<◌, ◌≤◌, ◌⊎◌, sym, refl, ap, ◌∙◌, subst, ap₂, inl, inr, mul_assoc, mul_comm, add-one, arith}
use Rattle.std.proofs.lemmas.Nat.{mul-le}
use Rattle.std.proofs.lemmas.Bool.{cases_eq}
use Rattle.finite.specs.Products.{product_below}

pub product_same : (n : ℕ) (f g : ℕ → ℕ) → ((i : ℕ) → i < n → f i ≡ g i) → product_below n f ≡ product_below n g
unfolding product_below
product_same zero f g h = refl
product_same (suc n) f g h = ap₂ ◌*◌ (product_same n f g (λ i l. h i (omega arith))) (h n (omega arith))

-- one factor times k
pub product_at : (n : ℕ) (f g : ℕ → ℕ) (j k : ℕ) → j < n → g j ≡ f j * k → ((i : ℕ) → (i ≡ j → ⊥) → g i ≡ f i) → product_below n g ≡ product_below n f * k
unfolding product_below
product_at zero f g j k l h o = absurd (omega arith)
product_at (suc n) f g j k l h o = step (cases_eq j n) (product_at n f g j k)
  where
    step : (j ≡ n) ⊎ (j ≡ n → ⊥) → (j < n → g j ≡ f j * k → ((i : ℕ) → (i ≡ j → ⊥) → g i ≡ f i) → product_below n g ≡ product_below n f * k) → product_below (suc n) g ≡ product_below (suc n) f * k
    step (inl e) ih = ap₂ ◌*◌ (product_same n g f (λ i m. o i (λ z. omega arith))) (subst (λ x. g x ≡ f x * k) e h) ∙ sym (mul_assoc (product_below n f) (f n) k)
    step (inr e) ih =
        ap₂ ◌*◌ (ih (omega arith) h o) (o n (λ z. e (sym z)))
        ∙ mul_assoc (product_below n f) k (f n)
        ∙ ap (λ (x : ℕ). product_below n f * x) (mul_comm k (f n))
        ∙ sym (mul_assoc (product_below n f) (f n) k)

pub product_ones : (n : ℕ) → product_below n (λ _. 1) ≡ 1
unfolding product_below
product_ones zero = refl
product_ones (suc n) = rw (product_ones n)

-- a product of numbers above 0 is above 0
pub product_pos : (n : ℕ) (f : ℕ → ℕ) → ((i : ℕ) → 0 < f i) → 0 < product_below n f
unfolding product_below
product_pos zero f h = omega arith
product_pos (suc n) f h = omega (arith, mul-le 1 1 (product_below n f) (f n) (product_pos n f h) (h n))

-- the steps of a product
pub product_none : (f : ℕ → ℕ) → product_below 0 f ≡ 1
unfolding product_below
product_none f = refl

pub product_more : (n : ℕ) (f : ℕ → ℕ) → product_below (n + 1) f ≡ product_below n f * f n
unfolding product_below
product_more n f = rw (add-one n) refl

-- factors above 0 do not lower a product
pub product_rises : (p n : ℕ) (f : ℕ → ℕ) → p ≤ n → ((i : ℕ) → 0 < f i) → product_below p f ≤ product_below n f
unfolding product_below
product_rises p zero f l h = let e : p ≡ 0 = omega arith in rw e (omega arith)
product_rises p (suc n) f l h = elim (cases_eq p (suc n)) [
  | inl e ↦ rw e (omega arith)
  | inr e ↦
      let ih : product_below p f ≤ product_below n f = product_rises p n f (omega arith) h in
      let m : product_below n f * 1 ≤ product_below n f * f n = mul-le (product_below n f) 1 (product_below n f) (f n) (omega arith) (omega (arith, h n)) in
      omega arith
]
