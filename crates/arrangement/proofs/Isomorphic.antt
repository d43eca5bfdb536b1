-- When two nets differ only by numbers.
use Rattle.std.proofs.Common.{◌≡◌, ℕ, ◌<◌}
use Rattle.finite.specs.Injections.{Bijects}
use Rattle.net.specs.Model.{Model}

-- the nets differ only by the numbers of their places and transitions
pub record Isomorphic (m n : Model) : Type 0 where
  pub place : ℕ → ℕ
  pub place_back : ℕ → ℕ
  pub transition : ℕ → ℕ
  pub transition_back : ℕ → ℕ
  pub on_places : Bijects place place_back m.places n.places
  pub on_transitions : Bijects transition transition_back m.transitions n.transitions
  pub place_labels : (p : ℕ) → p < m.places → n.place_label (place p) ≡ m.place_label p
  pub transition_labels : (t : ℕ) → t < m.transitions → n.transition_label (transition t) ≡ m.transition_label t
  pub causes : (t p : ℕ) → t < m.transitions → p < m.places → n.cause (transition t) (place p) ≡ m.cause t p
  pub effects : (t p : ℕ) → t < m.transitions → p < m.places → n.effect (transition t) (place p) ≡ m.effect t p
