-- The folded net of a grouping: its places and transitions are the groups. Assumes nothing.
use Rattle.std.specs.Prelude.{ℕ, Bool, cond, ◌&&◌, nat_lt}
use Rattle.net.specs.Model.{Model}
use Rattle.bisimulation.specs.Groups.{Groups}
use Rattle.bisimulation.specs.Rounds.{group_count, final}
use Rattle.bisimulation.specs.Leaders.{groups, leader}

-- a label for each group, that of its lowest member, 0 past the last
abbrev pub leader_label : (ℕ → ℕ → Bool) → ℕ → (ℕ → ℕ) → ℕ → ℕ
leader_label same n label g = cond (nat_lt g (groups same n)) (label (leader same n g)) 0

-- weights summed over a group of places, read from the lowest transition of a group, 0 outside
abbrev pub folded_weight : Model → Groups → (ℕ → ℕ → ℕ) → ℕ → ℕ → ℕ
folded_weight m r weight h g =
    cond (nat_lt h (groups r.same_transition m.transitions) && nat_lt g (groups r.same_place m.places))
    (group_count m.places r.same_place (weight (leader r.same_transition m.transitions h)) (leader r.same_place m.places g)) 0

-- each group as one
abbrev pub fold : Model → Groups → Model
fold m r = record {
  places = groups r.same_place m.places;
  transitions = groups r.same_transition m.transitions;
  place_label = leader_label r.same_place m.places m.place_label;
  transition_label = leader_label r.same_transition m.transitions m.transition_label;
  cause = folded_weight m r m.cause;
  effect = folded_weight m r m.effect;
}

-- the net folded by its groups at rest
abbrev pub folded : Model → Model
folded m = fold m (final m)
