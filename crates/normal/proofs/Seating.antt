-- Seats that are read off a ranking of the folded net are seats of the net.
use Rattle.std.proofs.Common.{◌≡◌, ℕ, ◌<◌, Bool, eqb, List, sym, ap, ◌∙◌, subst, arith}
use Rattle.finite.specs.Injections.{inverse}
use Rattle.finite.proofs.Given.{given}
use Rattle.finite.proofs.Counts.{count_same}
use Rattle.finite.proofs.Injections.{inverse_lands, inverse_right}
use Rattle.net.specs.Model.{Model, Lawful}
use Rattle.bisimulation.specs.Groups.{Equivalence}
use Rattle.bisimulation.specs.Rounds.{final}
use Rattle.bisimulation.specs.Leaders.{lowest, leads, group_of}
use Rattle.bisimulation.specs.Folding.{folded}
use Rattle.bisimulation.proofs.Equivalences.{final_equivalences}
use Rattle.bisimulation.proofs.Folded.{folded_lawful_lem}
use Rattle.bisimulation.proofs.Leaders.{lowest_found, group_lands}
use Rattle.fold.specs.declared.grouping.Grouping.{Grouping}
use Rattle.fold.specs.Divides.{Divides}
use Rattle.arrangement.specs.Arrangements.{at}
use Rattle.arrangement.specs.Seats.{Seating, place_group, transition_group}
use Rattle.arrangement.proofs.Folds.{folded_distinct}
use Rattle.search.specs.declared.ranking.Ranking.{Ranking}
use Rattle.search.specs.Ranked.{Ranked}
use Rattle.normal.specs.declared.seats.Seats.{Seats}
use Rattle.normal.specs.Seatings.{seated_by, group_number, SeatsAlong}
use Rattle.normal.proofs.Reducing.{ranked_least, ranked_position}

-- the number of a group, from the leaders
group_number_lem :
    (n : ℕ) (same : ℕ → ℕ → Bool) → Equivalence n same → (leaders : List ℕ) → ((p : ℕ) → p < n → at leaders p ≡ lowest same n p) →
    (p : ℕ) → p < n → group_number leaders (at leaders p) ≡ group_of same n p
unfolding group_of leads
group_number_lem n same E leaders lead p l =
    given (lowest_found n same E p l) λ f.
    ap (group_number leaders) (lead p l) ∙ count_same (lowest same n p) _ _ (λ q k. ap (λ (x : ℕ). eqb x q) (lead q (omega (arith, f.lands))))

pub seating :
    (m : Model) (g : Grouping) (r : Ranking) (s : Seats) → Lawful m → Divides m.places m.transitions (final m) g → Ranked (folded m) r →
    SeatsAlong m.places g.places.leaders (folded m).places r.places s.places.seats →
    SeatsAlong m.transitions g.transitions.leaders (folded m).transitions r.transitions s.transitions.seats →
    Seating (seated_by m s)
seating m g r s w d ranked places transitions =
    given (final_equivalences m) λ E.
    let group : (p : ℕ) → p < m.places → at s.places.seats p ≡ inverse (at r.places) (folded m).places (place_group m p) =
    λ p l. places p l ∙ ap (inverse (at r.places) (folded m).places) (group_number_lem m.places (final m).same_place E.on_places g.places.leaders d.on_places.leaders p l) in
    let lands : (p : ℕ) → p < m.places → place_group m p < (folded m).places = λ p l. group_lands m.places (final m).same_place E.on_places p l in
    record {
      arrangement = at r.places;
      arranges = ranked.arranges;
      reached = ranked_least (folded m) (folded_lawful_lem m w) (folded_distinct m) r ranked;
      place_lands = λ p l. subst (λ x. x < (folded m).places) (sym (group p l)) (inverse_lands (at r.places) (folded m).places ranked.arranges.permutes (place_group m p) (lands p l));
      places = λ p l. ap (at r.places) (group p l) ∙ inverse_right (at r.places) (folded m).places ranked.arranges.permutes (place_group m p) (lands p l);
      transitions = λ t l.
          transitions t l
          ∙ ap (inverse (at r.transitions) (folded m).transitions) (group_number_lem m.transitions (final m).same_transition E.on_transitions g.transitions.leaders d.on_transitions.leaders t l)
          ∙ ranked_position (folded m) (folded_lawful_lem m w) (folded_distinct m) r ranked (transition_group m t) (group_lands m.transitions (final m).same_transition E.on_transitions t l);
    }
