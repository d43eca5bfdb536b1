-- Cells: labels of the places, and the orders along which they do not fall. Assumes nothing.
use Rattle.std.specs.Prelude.{◌≡◌, ℕ, ◌<◌, ◌≤◌, ◌⊎◌, ◌↔◌, Bool, true}
use Rattle.finite.specs.Injections.{Injects}
use Rattle.net.specs.Model.{Model}
use Rattle.search.specs.Sorting.{AnswersBy}

-- x has each number below n once, and the labels c do not fall along it
pub record OrderedBy (n : ℕ) (c x : ℕ → ℕ) : Type 0 where
  pub permutes : Injects x n n
  pub ascends : (i j : ℕ) → i ≤ j → j < n → c (x i) ≤ c (x j)

-- p stands before q or with it by the labels c, and by the weights w where the labels agree
abbrev pub KeyAtMost : (ℕ → ℕ) → (ℕ → ℕ) → ℕ → ℕ → Type 0
KeyAtMost c w p q = (c p < c q) ⊎ ((c p ≡ c q) × (w p ≤ w q))

-- the labels d order the numbers below n as the test does, whichever order it goes by; of a test that goes by no order it says
-- nothing
abbrev pub Labels : ℕ → (ℕ → ℕ → Bool → Type 0) → (ℕ → ℕ) → Type 0
Labels n test d = (le : ℕ → ℕ → Bool) → AnswersBy n le test → (p q : ℕ) → p < n → q < n → (d p ≤ d q) ↔ (le p q ≡ true)

-- the labels d order the numbers below n by c, and by w where c agrees
pub record Finer (n : ℕ) (c w d : ℕ → ℕ) : Type 0 where
  pub parts : (p q : ℕ) → p < n → q < n → d p ≤ d q → KeyAtMost c w p q
  pub joins : (p q : ℕ) → p < n → q < n → KeyAtMost c w p q → d p ≤ d q

-- x is an order by the labels e, which order by c, then by the causes of t, and then by its effects
pub record LeastRow (m : Model) (t : ℕ) (c e x : ℕ → ℕ) : Type 0 where
  pub middle : ℕ → ℕ
  pub causes : Finer m.places c (m.cause t) middle
  pub effects : Finer m.places middle (m.effect t) e
  pub orders : OrderedBy m.places e x
