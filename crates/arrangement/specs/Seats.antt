-- Seats: where the group of a place or of a transition stands in the end sheet. Assumes nothing.
use Rattle.std.specs.Prelude.{◌≡◌, ℕ, ◌<◌, ◌≤◌, nat_eq}
use Rattle.net.specs.Model.{Model}
use Rattle.bisimulation.specs.Rounds.{group_count, final}
use Rattle.bisimulation.specs.Leaders.{group_of}
use Rattle.bisimulation.specs.Folding.{folded}
use Rattle.arrangement.specs.Arrangements.{Arrangement, position}
use Rattle.arrangement.specs.EndSheets.{sheet_along, end_sheet}

-- a net, and the seats of its places and of its transitions
pub record Seated : Type 0 where
  pub net : Model
  pub place_seat : ℕ → ℕ
  pub transition_seat : ℕ → ℕ

-- the group of a place, and of a transition, at rest
abbrev pub place_group : Model → ℕ → ℕ
place_group m p = group_of (final m).same_place m.places p

abbrev pub transition_group : Model → ℕ → ℕ
transition_group m t = group_of (final m).same_transition m.transitions t

-- The seats follow one arrangement that reaches the end sheet: a place has the position of its group in it, and a transition
-- that of its group.
pub record Seating (s : Seated) : Type 0 where
  pub arrangement : ℕ → ℕ
  pub arranges : Arrangement (folded s.net) arrangement
  pub reached : sheet_along (folded s.net) arrangement ≡ end_sheet s.net
  pub place_lands : (p : ℕ) → p < s.net.places → s.place_seat p < (folded s.net).places
  pub places : (p : ℕ) → p < s.net.places → arrangement (s.place_seat p) ≡ place_group s.net p
  pub transitions : (t : ℕ) → t < s.net.transitions → s.transition_seat t ≡ position (folded s.net) arrangement (transition_group s.net t)

-- a marking has the cause of transition t
abbrev pub Enabled : Model → (ℕ → ℕ) → ℕ → Type 0
Enabled m marking t = (p : ℕ) → p < m.places → m.cause t p ≤ marking p

-- the tokens of a bag on places with the seat k
abbrev pub seat_tokens : Seated → (ℕ → ℕ) → ℕ → ℕ
seat_tokens s bag k = group_count s.net.places (λ p k. nat_eq (s.place_seat p) k) bag k

-- The seats are the places and the transitions of the net e, onto which the net folds: labels are kept, causes and effects have
-- on each seat as many tokens as e has there, and where a marking has on each seat the tokens of a cause of e, some transition
-- with that seat is enabled.
pub record Sits (e : Model) (s : Seated) : Type 0 where
  pub place_lands : (p : ℕ) → p < s.net.places → s.place_seat p < e.places
  pub place_onto : (k : ℕ) → k < e.places → (p : ℕ) × (p < s.net.places) × (s.place_seat p ≡ k)
  pub place_labels : (p : ℕ) → p < s.net.places → s.net.place_label p ≡ e.place_label (s.place_seat p)
  pub transition_lands : (t : ℕ) → t < s.net.transitions → s.transition_seat t < e.transitions
  pub transition_onto : (j : ℕ) → j < e.transitions → (t : ℕ) × (t < s.net.transitions) × (s.transition_seat t ≡ j)
  pub transition_labels : (t : ℕ) → t < s.net.transitions → s.net.transition_label t ≡ e.transition_label (s.transition_seat t)
  pub causes : (t k : ℕ) → t < s.net.transitions → k < e.places → seat_tokens s (s.net.cause t) k ≡ e.cause (s.transition_seat t) k
  pub effects : (t k : ℕ) → t < s.net.transitions → k < e.places → seat_tokens s (s.net.effect t) k ≡ e.effect (s.transition_seat t) k
  pub enables : (marking : ℕ → ℕ) (j : ℕ) → j < e.transitions → ((k : ℕ) → k < e.places → e.cause j k ≤ seat_tokens s marking k) →
      (t : ℕ) × (t < s.net.transitions) × (s.transition_seat t ≡ j) × Enabled s.net marking t
