-- The bag that holds a place once, and how many tokens of a bag lie in a group.
use Rattle.std.proofs.Common.{◌≡◌, ℕ, ◌+◌, ◌-◌, ◌<◌, ◌≤◌, Bool, true, false, cond, ◌⊎◌, sym, refl, ap, ◌∙◌, inl, inr, arith}
use Rattle.std.proofs.lemmas.Bool.{cases_eq, eq-eqb, ne_eqb, cond-true}
use Rattle.finite.proofs.Given.{given}
use Rattle.finite.proofs.Sums.{sum_same, sum_zero, sum_add, sum_one, term_le}
use Rattle.finite.proofs.Searches.{find_less}
use Rattle.bisimulation.specs.Rounds.{unit, group_count}

pub unit_at : (a x : ℕ) → ((a ≡ x) × (unit a x ≡ 1)) ⊎ ((a ≡ x → ⊥) × (unit a x ≡ 0))
unfolding unit
unit_at a x =
    elim (cases_eq a x) [
      | inl e ↦ inl (e, ap (λ b. cond b 1 0) (eq-eqb a x e))
      | inr e ↦ inr (e, ap (λ b. cond b 1 0) (ne_eqb a x e))
    ]

pub unit_self : (a : ℕ) → unit a a ≡ 1
unit_self a = elim (unit_at a a) [ inl e ↦ e.1 | inr e ↦ absurd (e.0 refl) ]

pub counts_same : (n : ℕ) (same : ℕ → ℕ → Bool) (a b : ℕ → ℕ) (g : ℕ) → ((k : ℕ) → k < n → a k ≡ b k) → group_count n same a g ≡ group_count n same b g
unfolding group_count
counts_same n same a b g h = sum_same n _ _ (λ k l. ap (λ x. cond (same k g) x 0) (h k l))

-- groups of the same places have the same counts
pub counts_in :
    (n : ℕ) (old new : ℕ → ℕ → Bool) (a : ℕ → ℕ) (g h : ℕ) →
    ((k : ℕ) → k < n → old k g ≡ new k h) →
    group_count n old a g ≡ group_count n new a h
unfolding group_count
counts_in n old new a g h s = sum_same n _ _ (λ k l. ap (λ t. cond t (a k) 0) (s k l))

cond_add : (t : Bool) (x y : ℕ) → cond t (x + y) 0 ≡ cond t x 0 + cond t y 0
cond_add true x y = refl
cond_add false x y = refl

pub counts_add : (n : ℕ) (same : ℕ → ℕ → Bool) (a b : ℕ → ℕ) (g : ℕ) → group_count n same (λ k. a k + b k) g ≡ group_count n same a g + group_count n same b g
unfolding group_count
counts_add n same a b g =
    sum_same n _ _ (λ k l. cond_add (same k g) (a k) (b k)) ∙ sum_add n (λ k. cond (same k g) (a k) 0) (λ k. cond (same k g) (b k) 0)

cond_zero : (t : Bool) (x : ℕ) → x ≡ 0 → cond t x 0 ≡ 0
cond_zero true x e = e
cond_zero false x e = refl

pub counts_zero : (n : ℕ) (same : ℕ → ℕ → Bool) (a : ℕ → ℕ) (g : ℕ) → ((k : ℕ) → k < n → a k ≡ 0) → group_count n same a g ≡ 0
unfolding group_count
counts_zero n same a g h = sum_zero n _ (λ k l. cond_zero (same k g) (a k) (h k l))

pub counts_unit : (n : ℕ) (same : ℕ → ℕ → Bool) (p g : ℕ) → p < n → group_count n same (unit p) g ≡ cond (same p g) 1 0
unfolding group_count
counts_unit n same p g l =
    sum_one n (λ k. cond (same k g) (unit p k) 0) p l (λ k _ s. cond_zero (same k g) (unit p k) (elim (unit_at p k) [ inl e ↦ absurd (s (sym e.0)) | inr e ↦ e.1 ]))
    ∙ ap (λ x. cond (same p g) x 0) (unit_self p)

-- a member's tokens are among its group's
pub member_le : (n : ℕ) (same : ℕ → ℕ → Bool) (a : ℕ → ℕ) (p g : ℕ) → p < n → same p g ≡ true → a p ≤ group_count n same a g
unfolding group_count
member_le n same a p g l e =
    omega (arith, term_le n (λ k. cond (same k g) (a k) 0) p l, cond-true (same p g) (a p) 0 e)

pub cond_less : (t : Bool) (x y : ℕ) → cond t x 0 < cond t y 0 → (t ≡ true) × (x < y)
cond_less true x y h = (refl, h)
cond_less false x y h = absurd (omega arith)

-- where b has more in a group, it has more at a member
pub find_member :
    (n : ℕ) (same : ℕ → ℕ → Bool) (a b : ℕ → ℕ) (g : ℕ) →
    group_count n same a g < group_count n same b g →
    (p : ℕ) × (p < n) × (same p g ≡ true) × (a p < b p)
unfolding group_count
find_member n same a b g h =
    given (find_less n (λ k. cond (same k g) (a k) 0) (λ k. cond (same k g) (b k) 0) h) λ p.
    given (cond_less (same p.0 g) (a p.0) (b p.0) p.2) λ c.
    (p.0, p.1, c.0, c.1)

-- the bag a less one p
abbrev pub less : ℕ → (ℕ → ℕ) → ℕ → ℕ
less p a x = a x - unit p x

pub less_is : (a : ℕ → ℕ) (p : ℕ) → 0 < a p → (x : ℕ) → less p a x + unit p x ≡ a x
less_is a p h x = elim (unit_at p x) [ inl e ↦ omega (arith, ap a e.0) | inr e ↦ omega arith ]

pub counts_less : (n : ℕ) (same : ℕ → ℕ → Bool) (a : ℕ → ℕ) (p g : ℕ) → p < n → 0 < a p → group_count n same (less p a) g + cond (same p g) 1 0 ≡ group_count n same a g
counts_less n same a p g l h =
    omega (
      arith,
      counts_same n same (λ x. less p a x + unit p x) a g (λ x _. less_is a p h x),
      counts_add n same (less p a) (unit p) g,
      counts_unit n same p g l,
    )
