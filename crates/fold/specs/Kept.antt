-- A grouping's groups are an equivalence, and so is what a round keeps together of them. Assumes nothing.
use Rattle.std.specs.Prelude.{slice_index}
use Rattle.net.specs.Model.{Model}
use Rattle.bisimulation.specs.Groups.{Equivalences}
use Rattle.bisimulation.specs.Rounds.{refine}
use Rattle.bisimulation.proofs.Equivalences.{refine_equivalences}
use Rattle.fold.specs.declared.grouping.Grouping.{Grouping}
use Rattle.fold.specs.Grouped.{groups_of}
use Rattle.fold.specs.Images.{by_image}

pub groups_equivalences : (m : Model) (g : Grouping) → Equivalences m (groups_of g)
groups_equivalences m g = record {
  on_places = by_image m.places (slice_index g.places.leaders);
  on_transitions = by_image m.transitions (slice_index g.transitions.leaders);
}

pub kept_equivalences : (m : Model) (g : Grouping) → Equivalences m (refine m (groups_of g))
kept_equivalences m g = refine_equivalences m (groups_of g) (groups_equivalences m g)
