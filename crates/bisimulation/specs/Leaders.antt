-- The groups of a test that is an equivalence on the numbers below n, by their lowest members. Assumes nothing.
use Rattle.std.specs.Prelude.{ℕ, Bool, ◌&&◌, ◌==◌}
use Rattle.finite.specs.Below.{count_below, first_below}

-- the lowest member of p's group, its leader
unfoldable pub lowest : (ℕ → ℕ → Bool) → ℕ → ℕ → ℕ
lowest same n p = first_below n (λ q. same q p)

-- whether p is the lowest member of its group
unfoldable pub leads : (ℕ → ℕ → Bool) → ℕ → ℕ → Bool
leads same n p = lowest same n p == p

-- the number of groups
unfoldable pub groups : (ℕ → ℕ → Bool) → ℕ → ℕ
groups same n = count_below n (leads same n)

-- the number of p's group: groups are numbered in the order of their lowest members
unfoldable pub group_of : (ℕ → ℕ → Bool) → ℕ → ℕ → ℕ
group_of same n p = count_below (lowest same n p) (leads same n)

-- the lowest member of group g
unfoldable pub leader : (ℕ → ℕ → Bool) → ℕ → ℕ → ℕ
leader same n g = first_below n (λ p. leads same n p && count_below p (leads same n) == g)
