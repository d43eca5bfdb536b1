-- A labelled place/transition net, and what makes it lawful. Assumes nothing.
use Rattle.std.specs.Prelude.{◌≡◌, ℕ, ◌≤◌, ◌⊎◌}
use Rattle.finite.specs.Below.{sum_below}

-- A net: places and transitions are numbered from 0. `cause t p` is how many tokens transition t takes from place p,
-- `effect t p` how many it puts there.
pub record Model : Type 0 where
  pub places : ℕ
  pub transitions : ℕ
  pub place_label : ℕ → ℕ
  pub transition_label : ℕ → ℕ
  pub cause : ℕ → ℕ → ℕ
  pub effect : ℕ → ℕ → ℕ

-- the limits of a net
abbrev pub most_places : ℕ
most_places = 64

abbrev pub most_transitions : ℕ
most_transitions = 128

abbrev pub highest_label : ℕ
highest_label = 1023

-- the largest size of a cause or an effect
abbrev pub largest_bag : ℕ
largest_bag = 255

-- a label for each number below n, 0 for the others
abbrev pub Labelled : ℕ → (ℕ → ℕ) → Type 0
Labelled n label = ((i : ℕ) → label i ≤ highest_label) × ((i : ℕ) → n ≤ i → label i ≡ 0)

-- no weight where there is no such place, or no such transition
abbrev pub Outside : ℕ → ℕ → (ℕ → ℕ → ℕ) → Type 0
Outside places transitions weight = (t p : ℕ) → (places ≤ p) ⊎ (transitions ≤ t) → weight t p ≡ 0

-- each bag of weights has a size within the limit
abbrev pub SmallBags : ℕ → (ℕ → ℕ → ℕ) → Type 0
SmallBags places weight = (t : ℕ) → sum_below places (weight t) ≤ largest_bag

-- A net within the limits. Outside its range all is 0, so that two lawful nets with the same answers are equal.
pub record Lawful (m : Model) : Type 0 where
  pub few_places : m.places ≤ most_places
  pub few_transitions : m.transitions ≤ most_transitions
  pub place_labels : Labelled m.places m.place_label
  pub transition_labels : Labelled m.transitions m.transition_label
  pub sizes : SmallBags m.places m.cause × SmallBags m.places m.effect
  pub causes : Outside m.places m.transitions m.cause
  pub effects : Outside m.places m.transitions m.effect

-- the empty net
abbrev pub empty : Model
empty = record {
  places = 0;
  transitions = 0;
  place_label = λ _. 0;
  transition_label = λ _. 0;
  cause = λ _ _. 0;
  effect = λ _ _. 0;
}
