-- A grouping that divides places and transitions as two tests do. Assumes nothing.
use Rattle.std.specs.Prelude.{◌≡◌, ℕ, ◌<◌, Bool, slice_index}
use Rattle.bisimulation.specs.Groups.{Groups}
use Rattle.bisimulation.specs.Leaders.{lowest, groups}
use Rattle.fold.specs.declared.division.Division.{Division}
use Rattle.fold.specs.declared.grouping.Grouping.{Grouping}

-- n nodes in the groups of a test, each with its group's lowest member as its leader
pub record Divided {K : _} {MOST : _} (n : ℕ) (same : ℕ → ℕ → Bool) (d : Division K MOST) : Type 0 where
  pub members : d.members ≡ n
  pub number : d.groups ≡ groups same n
  pub leaders : (p : ℕ) → p < n → slice_index d.leaders p ≡ lowest same n p

-- so many places and transitions, in the groups of r
pub record Divides (places transitions : ℕ) (r : Groups) (g : Grouping) : Type 0 where
  pub on_places : Divided places r.same_place g.places
  pub on_transitions : Divided transitions r.same_transition g.transitions
