-- When the groups of two nets correspond. Assumes nothing.
use Rattle.std.specs.Prelude.{◌≡◌, ℕ, ◌<◌, Bool, true}
use Rattle.net.specs.Model.{Model}
use Rattle.bisimulation.specs.Groups.{Groups}
use Rattle.bisimulation.specs.Rounds.{group_count, final}
use Rattle.bisimulation.specs.Bisimulation.{Holds}

-- groups of m and of n agree along two relations
pub record Agree (m n : Model) (place transition : ℕ → ℕ → Type 0) (r s : Groups) : Type 0 where
  pub on_places : (p p' q q' : ℕ) → p < m.places → p' < m.places → q < n.places → q' < n.places → place p q → place p' q' → r.same_place p p' ≡ s.same_place q q'
  pub on_transitions : (t t' u u' : ℕ) → t < m.transitions → t' < m.transitions → u < n.transitions → u' < n.transitions → transition t u → transition t' u' → r.same_transition t t' ≡ s.same_transition u u'

-- The groups r of the net m correspond to the groups s of the net n: two relations make groups of one net partners of groups of the other.
pub record Correspondence (m n : Model) (place transition : ℕ → ℕ → Type 0) (r s : Groups) : Type 0 where
  -- every group of either net has a partner
  pub place_forth : (p : ℕ) → p < m.places → (q : ℕ) × (q < n.places) × place p q
  pub place_back : (q : ℕ) → q < n.places → (p : ℕ) × (p < m.places) × place p q
  pub transition_forth : (t : ℕ) → t < m.transitions → (u : ℕ) × (u < n.transitions) × transition t u
  pub transition_back : (u : ℕ) → u < n.transitions → (t : ℕ) × (t < m.transitions) × transition t u
  -- partners have equal labels
  pub place_labels : (p q : ℕ) → p < m.places → q < n.places → place p q → m.place_label p ≡ n.place_label q
  pub transition_labels : (t u : ℕ) → t < m.transitions → u < n.transitions → transition t u → m.transition_label t ≡ n.transition_label u
  -- what is related to one of a group is related to all of it
  pub place_groups : (p q q' : ℕ) → p < m.places → q < n.places → q' < n.places → place p q → s.same_place q q' ≡ true → place p q'
  pub transition_groups : (t u u' : ℕ) → t < m.transitions → u < n.transitions → u' < n.transitions → transition t u → s.same_transition u u' ≡ true → transition t u'
  -- two of one net are together exactly when those related to them are: a group has one partner
  pub agree : Agree m n place transition r s
  -- partners have equally many tokens, of the causes of related transitions and of their effects
  pub causes : (t u p q : ℕ) → t < m.transitions → u < n.transitions → p < m.places → q < n.places → transition t u → place p q →
      group_count m.places r.same_place (m.cause t) p ≡ group_count n.places s.same_place (n.cause u) q
  pub effects : (t u p q : ℕ) → t < m.transitions → u < n.transitions → p < m.places → q < n.places → transition t u → place p q →
      group_count m.places r.same_place (m.effect t) p ≡ group_count n.places s.same_place (n.effect u) q

-- The groups at rest of two nets correspond, along relations that are given by tests.
abbrev pub Corresponding : Model → Model → Type 0
Corresponding m n =
    (place : ℕ → ℕ → Bool) × ((transition : ℕ → ℕ → Bool) × Correspondence m n (Holds place) (Holds transition) (final m) (final n))
