-- Arrangements of a net: orders of its places with ascending labels, and the net in such an order. Assumes nothing.
use Rattle.std.specs.Prelude.{◌≡◌, ℕ, ◌<◌, ◌≤◌, cond, ◌&&◌, List, ◌∷◌, ◌++◌, nat_lt, slice_index}
use Rattle.std.specs.List.{range_with_len, flat_map}
use Rattle.finite.specs.Below.{count_below}
use Rattle.finite.specs.Lexicographic.{lower}
use Rattle.finite.specs.Injections.{Injects, inverse, tabulate}
use Rattle.net.specs.Model.{Model}

-- a list as an order: the number that stands at i
abbrev pub at : List ℕ → ℕ → ℕ
at xs i = slice_index xs i

-- An arrangement: `a i` is the place that stands at position i. Each place stands at one position, and labels do not fall.
pub record Arrangement (m : Model) (a : ℕ → ℕ) : Type 0 where
  pub permutes : Injects a m.places m.places
  pub ascends : (i j : ℕ) → i ≤ j → j < m.places → m.place_label (a i) ≤ m.place_label (a j)

-- a transition's label, its cause weights and its effect weights, the places in the order a
unfoldable pub row : Model → (ℕ → ℕ) → ℕ → List ℕ
row m a t = m.transition_label t ∷ (tabulate (λ i. m.cause t (a i)) m.places ++ tabulate (λ i. m.effect t (a i)) m.places)

-- the position of a transition: how many have a lower row
unfoldable pub position : Model → (ℕ → ℕ) → ℕ → ℕ
position m a t = count_below m.transitions (λ u. lower (row m a u) (row m a t))

-- the transition that stands at a position
abbrev pub standing : Model → (ℕ → ℕ) → ℕ → ℕ
standing m a j = inverse (position m a) m.transitions j

-- weights with the transitions in the order ts and the places in the order a, 0 outside the range
abbrev pub reordered : Model → (ℕ → ℕ) → (ℕ → ℕ) → (ℕ → ℕ → ℕ) → ℕ → ℕ → ℕ
reordered m a ts weight j i = cond (nat_lt j m.transitions && nat_lt i m.places) (weight (ts j) (a i)) 0

-- a net with its places in the order a and its transitions in the order ts
abbrev pub ordered : Model → (ℕ → ℕ) → (ℕ → ℕ) → Model
ordered m a ts = record {
  places = m.places;
  transitions = m.transitions;
  place_label = λ i. cond (nat_lt i m.places) (m.place_label (a i)) 0;
  transition_label = λ j. cond (nat_lt j m.transitions) (m.transition_label (ts j)) 0;
  cause = reordered m a ts m.cause;
  effect = reordered m a ts m.effect;
}

-- the net of an arrangement: its places in that order, and each transition at its position
abbrev pub arranged : Model → (ℕ → ℕ) → Model
arranged m a = ordered m a (standing m a)

-- the rows of the transitions, by their positions
abbrev pub rows_along : Model → (ℕ → ℕ) → List ℕ
rows_along m a = flat_map (λ j. row m a (standing m a j)) (range_with_len 0 m.transitions)

-- no two transitions agree in label, cause and effect
pub record Distinct (m : Model) : Type 0 where
  pub apart : (t u : ℕ) → t < m.transitions → u < m.transitions → m.transition_label t ≡ m.transition_label u →
      ((p : ℕ) → p < m.places → m.cause t p ≡ m.cause u p) → ((p : ℕ) → p < m.places → m.effect t p ≡ m.effect u p) → t ≡ u
