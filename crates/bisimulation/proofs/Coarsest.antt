-- The grouping at rest contains every congruence.
use Rattle.std.proofs.Common.{ℕ, ◌∙◌}
use Rattle.finite.proofs.Given.{given}
use Rattle.net.specs.Model.{Model}
use Rattle.bisimulation.specs.Groups.{Groups, Within}
use Rattle.bisimulation.specs.Rounds.{rounds, rest, final}
use Rattle.bisimulation.specs.Bisimulation.{Holds}
use Rattle.bisimulation.specs.Laws.{Congruence}
use Rattle.bisimulation.proofs.Equivalences.{rounds_equivalences}
use Rattle.bisimulation.proofs.Agreement.{rounds_agree}

-- each round is carried along the congruence: p and q are together as q and q are
rounds_contain : (m : Model) (r : Groups) → Congruence m r → (k : ℕ) → Within m r (rounds m k)
rounds_contain m r C k =
    given (rounds_agree m m (Holds r.same_place) (Holds r.same_transition) C.bisimulation k) λ A.
    given (rounds_equivalences m k) λ E.
    given C.equivalences λ F.
    record {
      on_places = λ p q i j h. A.on_places p q q q i j j j h (F.on_places.self q j) ∙ E.on_places.self q j;
      on_transitions = λ t u i j h. A.on_transitions t u u u i j j j h (F.on_transitions.self u j) ∙ E.on_transitions.self u j;
    }

pub final_contains : (m : Model) (r : Groups) → Congruence m r → Within m r (final m)
unfolding final
final_contains m r C = rounds_contain m r C (rest m)
