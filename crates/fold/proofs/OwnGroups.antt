-- A net that is folded by its own groups at rest.
use Rattle.std.proofs.Common.{sym}
use Rattle.std.proofs.lemmas.Bool.{and_from, eq-eqb}
use Rattle.net.specs.Model.{Model}
use Rattle.bisimulation.specs.Rounds.{final}
use Rattle.bisimulation.specs.Bisimulation.{Alike}
use Rattle.bisimulation.proofs.Equivalences.{final_equivalences}
use Rattle.fold.specs.declared.grouping.Grouping.{Grouping}
use Rattle.fold.specs.Divides.{Divides}
use Rattle.fold.specs.Layer.{folded_by}
use Rattle.fold.proofs.Dividing.{divides_same}
use Rattle.fold.proofs.Layered.{layer_alike}

pub own_alike : (m : Model) (g : Grouping) → Divides m.places m.transitions (final m) g → Alike (folded_by m g) m
own_alike m g d = layer_alike m g
    (and_from _ _ (eq-eqb _ _ (sym d.on_places.members)) (eq-eqb _ _ (sym d.on_transitions.members)))
    (divides_same m (final m) g (final_equivalences m) d)
