-- The groups that a grouping stands for. Assumes nothing.
use Rattle.bisimulation.specs.Groups.{Groups}
use Rattle.fold.specs.declared.grouping.Grouping.{Grouping}
use Rattle.fold.specs.Together.{together}

abbrev pub groups_of : Grouping → Groups
groups_of g = record { same_place = together g.places.leaders; same_transition = together g.transitions.leaders }
