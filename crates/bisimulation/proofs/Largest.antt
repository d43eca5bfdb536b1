-- The grouping at rest is a congruence.
use Rattle.std.proofs.Common.{◌≡◌, ℕ, zero, suc, ◌<◌, true, sym}
use Rattle.std.proofs.lemmas.Bool.{eqb-true}
use Rattle.finite.proofs.Given.{given}
use Rattle.net.specs.Model.{Model}
use Rattle.bisimulation.specs.Groups.{Equivalences}
use Rattle.bisimulation.specs.Rounds.{rounds, rest, final}
use Rattle.bisimulation.specs.Bisimulation.{Bisimulation, Holds}
use Rattle.bisimulation.specs.Laws.{Congruence}
use Rattle.bisimulation.proofs.Views.{TransitionStep, place_says, transition_says}
use Rattle.bisimulation.proofs.Equivalences.{final_equivalences}
use Rattle.bisimulation.proofs.Exchange.{iterated_exchange}
use Rattle.bisimulation.proofs.Pairings.{group_counts_match, match_counts}
use Rattle.bisimulation.proofs.Rest.{final_stable}

-- what is together in a round has equal labels
round_place_labels : (m : Model) (k p q : ℕ) → (rounds m k).same_place p q ≡ true → m.place_label p ≡ m.place_label q
unfolding rounds
round_place_labels m zero p q h = eqb-true _ _ h
round_place_labels m (suc k) p q h = round_place_labels m k p q (place_says m (rounds m k) p q h).before

round_transition_labels : (m : Model) (k t u : ℕ) → (rounds m k).same_transition t u ≡ true → m.transition_label t ≡ m.transition_label u
unfolding rounds
round_transition_labels m zero t u h = eqb-true _ _ h
round_transition_labels m (suc k) t u h = round_transition_labels m k t u (transition_says m (rounds m k) t u h).before

pub final_place_labels : (m : Model) (p q : ℕ) → (final m).same_place p q ≡ true → m.place_label p ≡ m.place_label q
unfolding final
final_place_labels m p q h = round_place_labels m (rest m) p q h

pub final_transition_labels : (m : Model) (t u : ℕ) → (final m).same_transition t u ≡ true → m.transition_label t ≡ m.transition_label u
unfolding final
final_transition_labels m t u h = round_transition_labels m (rest m) t u h

-- transitions together at rest have equal counts
pub final_counts : (m : Model) (t u : ℕ) → t < m.transitions → u < m.transitions → (final m).same_transition t u ≡ true → TransitionStep m (final m) t u
final_counts m t u i j h = transition_says m (final m) t u ((final_stable m).on_transitions t u i j h)

final_bisimulation : (m : Model) → Bisimulation m m (Holds (final m).same_place) (Holds (final m).same_transition)
final_bisimulation m =
    record {
      place_forth = λ p l. (p, l, E.on_places.self p l);
      place_back = λ p l. (p, l, E.on_places.self p l);
      transition_forth = λ t l. (t, l, E.on_transitions.self t l);
      transition_back = λ t l. (t, l, E.on_transitions.self t l);
      place_labels = λ p q _ _ h. final_place_labels m p q h;
      transition_labels = λ t u _ _ h. final_transition_labels m t u h;
      causes = λ t u i j h. group_counts_match _ _ E.on_places _ _ (final_counts m t u i j h).causes;
      effects = λ t u i j h. group_counts_match _ _ E.on_places _ _ (final_counts m t u i j h).effects;
      forth =
          λ t b i w.
          given (iterated_exchange m (final m) E (final_stable m) b t i (match_counts _ _ E.on_places _ _ w)) λ v. (v.0, v.1, v.3, v.2);
      back =
          λ u a i w.
          given (iterated_exchange m (final m) E (final_stable m) a u i (λ g l. sym (match_counts _ _ E.on_places _ _ w g l))) λ v.
          (v.0, v.1, v.3, E.on_transitions.turn u v.0 i v.1 v.2);
    }
  where
    E : Equivalences m (final m)
    E = final_equivalences m

pub final_congruence : (m : Model) → Congruence m (final m)
final_congruence m = record { equivalences = final_equivalences m; bisimulation = final_bisimulation m }
