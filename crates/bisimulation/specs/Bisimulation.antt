-- Structural bisimulation between two nets. Assumes nothing.
use Rattle.std.specs.Prelude.{◌≡◌, ℕ, ◌+◌, ◌<◌, Bool, true, List, [], ◌∷◌}
use Rattle.net.specs.Model.{Model}
use Rattle.bisimulation.specs.Rounds.{unit}

-- how many pairs of the list have p as their first, and q as their second
unfoldable pub count_first : ℕ → List (ℕ × ℕ) → ℕ
count_first p [] = 0
count_first p (x ∷ xs) = unit x.0 p + count_first p xs

unfoldable pub count_second : ℕ → List (ℕ × ℕ) → ℕ
count_second q [] = 0
count_second q (x ∷ xs) = unit x.1 q + count_second q xs

-- each pair of the list is in range, and related
abbrev pub AllPaired : ℕ → ℕ → (ℕ → ℕ → Type 0) → List (ℕ × ℕ) → Type 0
AllPaired m n related [] = Unit {0}
AllPaired m n related (x ∷ xs) = (x.0 < m) × (x.1 < n) × related x.0 x.1 × AllPaired m n related xs

-- The bag a over m places matches the bag b over n places: their tokens are paired off so that each pair is related.
pub record Matching (m n : ℕ) (related : ℕ → ℕ → Type 0) (a b : ℕ → ℕ) : Type 0 where
  pub pairs : List (ℕ × ℕ)
  pub paired : AllPaired m n related pairs
  pub firsts : (p : ℕ) → p < m → count_first p pairs ≡ a p
  pub seconds : (q : ℕ) → q < n → count_second q pairs ≡ b q

-- A structural bisimulation between the nets m and n: a relation of their places and one of their transitions.
pub record Bisimulation (m n : Model) (place transition : ℕ → ℕ → Type 0) : Type 0 where
  -- every place and transition of either net is related to one of the other
  pub place_forth : (p : ℕ) → p < m.places → (q : ℕ) × (q < n.places) × place p q
  pub place_back : (q : ℕ) → q < n.places → (p : ℕ) × (p < m.places) × place p q
  pub transition_forth : (t : ℕ) → t < m.transitions → (u : ℕ) × (u < n.transitions) × transition t u
  pub transition_back : (u : ℕ) → u < n.transitions → (t : ℕ) × (t < m.transitions) × transition t u
  -- related ones have equal labels
  pub place_labels : (p q : ℕ) → p < m.places → q < n.places → place p q → m.place_label p ≡ n.place_label q
  pub transition_labels : (t u : ℕ) → t < m.transitions → u < n.transitions → transition t u → m.transition_label t ≡ n.transition_label u
  -- causes of related transitions match, and so do effects
  pub causes : (t u : ℕ) → t < m.transitions → u < n.transitions → transition t u → Matching m.places n.places place (m.cause t) (n.cause u)
  pub effects : (t u : ℕ) → t < m.transitions → u < n.transitions → transition t u → Matching m.places n.places place (m.effect t) (n.effect u)
  -- where a bag of one net matches the cause of a transition of the other, some transition related to that one has this bag as its cause
  pub forth : (t : ℕ) (b : ℕ → ℕ) → t < m.transitions → Matching m.places n.places place (m.cause t) b →
      (v : ℕ) × (v < n.transitions) × ((q : ℕ) → q < n.places → n.cause v q ≡ b q) × transition t v
  pub back : (u : ℕ) (a : ℕ → ℕ) → u < n.transitions → Matching m.places n.places place a (n.cause u) →
      (v : ℕ) × (v < m.transitions) × ((p : ℕ) → p < m.places → m.cause v p ≡ a p) × transition v u

-- a relation that is given by a test
abbrev pub Holds : (ℕ → ℕ → Bool) → ℕ → ℕ → Type 0
Holds test x y = test x y ≡ true

-- Two nets are alike: there is a structural bisimulation between them. Between finite nets each relation is given by a test.
abbrev pub Alike : Model → Model → Type 0
Alike m n = (place : ℕ → ℕ → Bool) × ((transition : ℕ → ℕ → Bool) × Bisimulation m n (Holds place) (Holds transition))
