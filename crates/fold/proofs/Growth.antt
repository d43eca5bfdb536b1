-- A test within another has as many groups or more.
use Rattle.std.proofs.Common.{◌≡◌, ℕ, ◌<◌, ◌≤◌, Bool, true, inl, inr, ⊎_elim, arith}
use Rattle.std.proofs.lemmas.Bool.{cases_lt, cases_Bool}
use Rattle.bisimulation.specs.Groups.{Equivalence}
use Rattle.bisimulation.specs.Leaders.{groups}
use Rattle.bisimulation.proofs.Splits.{groups_grow, groups_kept}

pub groups_le : (n : ℕ) (old new : ℕ → ℕ → Bool) → Equivalence n old → Equivalence n new →
    ((a b : ℕ) → a < n → b < n → new a b ≡ true → old a b ≡ true) → groups old n ≤ groups new n
groups_le n old new E F inside = ⊎_elim
    (λ (l : groups new n < groups old n). absurd (omega (
      arith,
      groups_kept n old new inside (λ a b i j h.
          elim (cases_Bool (new a b)) [ inl y ↦ y | inr y ↦ absurd (omega (arith, groups_grow n old new E F inside a b i j h y)) ]),
    )))
    (λ (l : groups old n ≤ groups new n). l)
    (cases_lt (groups new n) (groups old n))
