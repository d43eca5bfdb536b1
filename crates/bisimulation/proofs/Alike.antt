-- The folded net is alike to the net: a group is related to its members.
use Rattle.std.proofs.Common.{◌≡◌, ℕ, ◌<◌, Bool, true, cond, eqb, sym, refl, ◌∙◌}
use Rattle.std.proofs.lemmas.Bool.{eqb-true, eq-eqb, ne_eqb, cond-true, cond-false}
use Rattle.finite.proofs.Given.{given}
use Rattle.finite.proofs.Tests.{same_test}
use Rattle.finite.proofs.Sums.{sum_one}
use Rattle.net.specs.Model.{Model}
use Rattle.bisimulation.specs.Groups.{Equivalence, Equivalences}
use Rattle.bisimulation.specs.Rounds.{group_count, final}
use Rattle.bisimulation.specs.Leaders.{groups, group_of, leader}
use Rattle.bisimulation.specs.Folding.{folded_weight, folded}
use Rattle.bisimulation.specs.Bisimulation.{Matching, Bisimulation, Alike, Holds}
use Rattle.bisimulation.proofs.Views.{SameCounts}
use Rattle.bisimulation.proofs.Equivalences.{final_equivalences}
use Rattle.bisimulation.proofs.Leaders.{group_lands, group_same, group_says, group_leader, group_test, leader_lands}
use Rattle.bisimulation.proofs.Matchings.{matching_counts}
use Rattle.bisimulation.proofs.Exchange.{iterated_exchange}
use Rattle.bisimulation.proofs.Pairings.{counts_match, counts_along}
use Rattle.bisimulation.proofs.Rest.{final_stable}
use Rattle.bisimulation.proofs.Largest.{final_place_labels, final_transition_labels, final_counts}
use Rattle.bisimulation.proofs.Folded.{label_is, weight_is}

-- whether p is of the group g
abbrev pub in_group : (ℕ → ℕ → Bool) → ℕ → ℕ → ℕ → Bool
in_group same n g p = eqb (group_of same n p) g

-- where each is its own group, counts are tokens
pub counts_single : (n : ℕ) (a : ℕ → ℕ) (g : ℕ) → g < n → group_count n eqb a g ≡ a g
unfolding group_count
counts_single n a g l =
    sum_one n (λ p. cond (eqb p g) (a p) 0) g l (λ p _ s. cond-false _ _ _ (ne_eqb p g s)) ∙ cond-true _ _ _ (eq-eqb g g refl)

module _ (n : ℕ) (same : ℕ → ℕ → Bool) (E : Equivalence n same) where
  in_forth : (g : ℕ) → g < groups same n → (p : ℕ) × (p < n) × Holds (in_group same n) g p
  in_forth g l = (leader same n g, leader_lands n same E g l, eq-eqb _ _ (group_leader n same E g l))

  in_back : (p : ℕ) → p < n → (g : ℕ) × (g < groups same n) × Holds (in_group same n) g p
  in_back p l = (group_of same n p, group_lands n same E p l, eq-eqb _ _ refl)

  -- a member is together with the leader
  in_leader : (g p : ℕ) → g < groups same n → p < n → Holds (in_group same n) g p → same (leader same n g) p ≡ true
  in_leader g p l k r = E.turn p _ k (leader_lands n same E g l) (sym (group_test n same E p g k l) ∙ r)

  in_agree :
      (x x' y y' : ℕ) → x < groups same n → x' < groups same n → y < n → y' < n →
      Holds (in_group same n) x y → Holds (in_group same n) x' y' → eqb x x' ≡ same y y'
  in_agree x x' y y' _ _ j j' r r' =
      same_test _ _ (λ e. group_says n same E y y' j j' (eqb-true _ _ r ∙ eqb-true _ _ e ∙ sym (eqb-true _ _ r')))
      (λ e. eq-eqb _ _ (sym (eqb-true _ _ r) ∙ group_same n same E y y' j j' e ∙ eqb-true _ _ r'))

  -- a bag of groups matches a bag if and only if it has the bag's counts
  groups_match :
      (a b : ℕ → ℕ) →
      ((g p : ℕ) → g < groups same n → p < n → Holds (in_group same n) g p → a g ≡ group_count n same b p) →
      Matching (groups same n) n (Holds (in_group same n)) a b
  groups_match a b h =
      counts_match (groups same n) n (Holds (in_group same n)) eqb same E
      (λ x y z _ j k r s. eq-eqb _ _ (sym (group_same n same E y z j k s) ∙ eqb-true _ _ r))
      in_agree in_forth in_back a b (λ g p i j r. counts_single (groups same n) a g i ∙ h g p i j r)

  match_groups :
      (a b : ℕ → ℕ) →
      Matching (groups same n) n (Holds (in_group same n)) a b →
      (g p : ℕ) → g < groups same n → p < n → Holds (in_group same n) g p → a g ≡ group_count n same b p
  match_groups a b w g p i j r =
      sym (counts_single (groups same n) a g i)
      ∙ matching_counts (groups same n) n (Holds (in_group same n)) a b w eqb same g p (λ x y k l s. in_agree x g y p k i l j s r)

-- the folded weights of a group of transitions are the counts of any member
weight_at_lem :
    (m : Model) (weight : ℕ → ℕ → ℕ) →
    ((t u : ℕ) → t < m.transitions → u < m.transitions → (final m).same_transition t u ≡ true → SameCounts m (final m) (weight t) (weight u)) →
    (h t g p : ℕ) → h < (folded m).transitions → t < m.transitions → g < (folded m).places → p < m.places →
    Holds (in_group (final m).same_transition m.transitions) h t →
    Holds (in_group (final m).same_place m.places) g p →
    folded_weight m (final m) weight h g ≡ group_count m.places (final m).same_place (weight t) p
weight_at_lem m weight even h t g p i j k l r s =
    given (final_equivalences m).on_places λ E.
    given (final_equivalences m).on_transitions λ F.
    given (leader_lands m.places (final m).same_place E g k) λ x.
    given (leader_lands m.transitions (final m).same_transition F h i) λ y.
    weight_is m (final m) weight h g i k
    ∙ even _ t y j (in_leader m.transitions (final m).same_transition F h t i j r) _ x
    ∙ counts_along m.places (final m).same_place E (weight t) _ p x l (in_leader m.places (final m).same_place E g p k l s)

-- so are the causes and the effects of the folded net
pub folded_cause :
    (m : Model) (h t g p : ℕ) → h < (folded m).transitions → t < m.transitions → g < (folded m).places → p < m.places →
    Holds (in_group (final m).same_transition m.transitions) h t →
    Holds (in_group (final m).same_place m.places) g p →
    (folded m).cause h g ≡ group_count m.places (final m).same_place (m.cause t) p
folded_cause m = weight_at_lem m m.cause (λ t u i j e. (final_counts m t u i j e).causes)

pub folded_effect :
    (m : Model) (h t g p : ℕ) → h < (folded m).transitions → t < m.transitions → g < (folded m).places → p < m.places →
    Holds (in_group (final m).same_transition m.transitions) h t →
    Holds (in_group (final m).same_place m.places) g p →
    (folded m).effect h g ≡ group_count m.places (final m).same_place (m.effect t) p
folded_effect m = weight_at_lem m m.effect (λ t u i j e. (final_counts m t u i j e).effects)

pub folded_bisimulation :
    (m : Model) →
    Bisimulation (folded m) m (Holds (in_group (final m).same_place m.places)) (Holds (in_group (final m).same_transition m.transitions))
folded_bisimulation m =
    record {
      place_forth = in_forth m.places (final m).same_place E.on_places;
      place_back = in_back m.places (final m).same_place E.on_places;
      transition_forth = in_forth m.transitions (final m).same_transition E.on_transitions;
      transition_back = in_back m.transitions (final m).same_transition E.on_transitions;
      place_labels =
          λ g p i j r.
          label_is (final m).same_place m.places m.place_label g i
          ∙ final_place_labels m _ p (in_leader m.places (final m).same_place E.on_places g p i j r);
      transition_labels =
          λ h t i j r.
          label_is (final m).same_transition m.transitions m.transition_label h i
          ∙ final_transition_labels m _ t (in_leader m.transitions (final m).same_transition E.on_transitions h t i j r);
      causes =
          λ h t i j r.
          groups_match m.places (final m).same_place E.on_places _ _ (λ g p k l s. folded_cause m h t g p i j k l r s);
      effects =
          λ h t i j r.
          groups_match m.places (final m).same_place E.on_places _ _ (λ g p k l s. folded_effect m h t g p i j k l r s);
      forth =
          λ h b i w.
          given (in_forth m.transitions (final m).same_transition E.on_transitions h i) λ t.
          given (iterated_exchange m (final m) E (final_stable m) b t.0 t.1 (λ p l.
          given (in_back m.places (final m).same_place E.on_places p l) λ g.
          sym (folded_cause m h t.0 g.0 p i t.1 g.1 l t.2 g.2)
          ∙ match_groups m.places (final m).same_place E.on_places _ b w g.0 p g.1 l g.2)) λ v. (
            v.0,
            v.1,
            v.3,
            eq-eqb _ _ (sym (group_same m.transitions (final m).same_transition E.on_transitions t.0 v.0 t.1 v.1 v.2) ∙ eqb-true _ _ t.2),
          );
      back =
          λ u a i w.
          given (in_back m.transitions (final m).same_transition E.on_transitions u i) λ h. (
            h.0,
            h.1,
            λ g k.
                given (in_forth m.places (final m).same_place E.on_places g k) λ p.
                folded_cause m h.0 u g p.0 h.1 i k p.1 h.2 p.2
                ∙ sym (match_groups m.places (final m).same_place E.on_places a _ w g p.0 k p.1 p.2),
            h.2,
          );
    }
  where
    E : Equivalences m (final m)
    E = final_equivalences m

pub folded_alike_lem : (m : Model) → Alike (folded m) m
folded_alike_lem m =
    (in_group (final m).same_place m.places, (in_group (final m).same_transition m.transitions, folded_bisimulation m))
