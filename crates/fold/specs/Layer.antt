-- A net read through a grouping. Assumes nothing.
use Rattle.std.specs.Prelude.{Bool, cond, ◌&&◌, ◌==◌}
use Rattle.std.proofs.lemmas.Bool.{cond_both}
use Rattle.net.specs.Model.{Model, Lawful}
use Rattle.bisimulation.specs.Folding.{fold}
use Rattle.bisimulation.proofs.Folded.{fold_lawful}
use Rattle.fold.specs.declared.grouping.Grouping.{Grouping}
use Rattle.fold.specs.Grouped.{groups_of}
use Rattle.fold.specs.Kept.{groups_equivalences}

-- the grouping divides as many places and as many transitions as the net has
abbrev pub fits : Model → Grouping → Bool
fits m g = m.places == g.places.members && m.transitions == g.transitions.members

-- the net of the groups, and the net itself where the grouping does not fit
abbrev pub folded_by : Model → Grouping → Model
folded_by m g = cond (fits m g) (fold m (groups_of g)) m

pub folded_by_lawful : (m : Model) (g : Grouping) → Lawful m → Lawful (folded_by m g)
folded_by_lawful m g l = cond_both (fits m g) (fold m (groups_of g)) m Lawful
    (λ _. fold_lawful m (groups_of g) (groups_equivalences m g) l) (λ _. l)
