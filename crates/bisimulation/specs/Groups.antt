-- Which places of a net are together, and which transitions. Assumes nothing.
use Rattle.std.specs.Prelude.{◌≡◌, ℕ, ◌<◌, Bool, true}
use Rattle.net.specs.Model.{Model}

-- a grouping of places and of transitions, as two tests
pub record Groups : Type 0 where
  pub same_place : ℕ → ℕ → Bool
  pub same_transition : ℕ → ℕ → Bool

-- a test is an equivalence on the numbers below n
pub record Equivalence (n : ℕ) (same : ℕ → ℕ → Bool) : Type 0 where
  pub self : (a : ℕ) → a < n → same a a ≡ true
  pub turn : (a b : ℕ) → a < n → b < n → same a b ≡ true → same b a ≡ true
  pub join : (a b c : ℕ) → a < n → b < n → c < n → same a b ≡ true → same b c ≡ true → same a c ≡ true

pub record Equivalences (m : Model) (r : Groups) : Type 0 where
  pub on_places : Equivalence m.places r.same_place
  pub on_transitions : Equivalence m.transitions r.same_transition

-- what is together in one grouping is together in the other
pub record Within (m : Model) (r s : Groups) : Type 0 where
  pub on_places : (p q : ℕ) → p < m.places → q < m.places → r.same_place p q ≡ true → s.same_place p q ≡ true
  pub on_transitions : (t u : ℕ) → t < m.transitions → u < m.transitions → r.same_transition t u ≡ true → s.same_transition t u ≡ true
