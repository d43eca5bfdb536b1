-- Maps between the numbers below two bounds. Assumes nothing.
use Rattle.std.specs.Prelude.{◌≡◌, ℕ, ◌<◌, List, map, nat_eq}
use Rattle.std.specs.List.{range_with_len}
use Rattle.finite.specs.Below.{first_below}

-- f takes the numbers below n to numbers below m, no two to one
pub record Injects (f : ℕ → ℕ) (n m : ℕ) : Type 0 where
  pub lands : (i : ℕ) → i < n → f i < m
  pub apart : (i k : ℕ) → i < n → k < n → f i ≡ f k → i ≡ k

-- f and g are inverse to each other between the numbers below n and those below m
pub record Bijects (f g : ℕ → ℕ) (n m : ℕ) : Type 0 where
  pub lands : (i : ℕ) → i < n → f i < m
  pub returns : (j : ℕ) → j < m → g j < n
  pub left : (i : ℕ) → i < n → g (f i) ≡ i
  pub right : (j : ℕ) → j < m → f (g j) ≡ j

-- the lowest number below n that f takes to j
abbrev pub inverse : (ℕ → ℕ) → ℕ → ℕ → ℕ
inverse f n j = first_below n (λ i. nat_eq (f i) j)

-- f 0, f 1, .., f (n - 1) as a list
abbrev pub tabulate : (ℕ → ℕ) → ℕ → List ℕ
tabulate f n = map f (range_with_len 0 n)
