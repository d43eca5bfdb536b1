-- Two nets are alike exactly when their groups at rest correspond.
use Rattle.std.proofs.Common.{◌≡◌, ℕ, ◌<◌, Bool, true, ◌&&◌, sym, ◌∙◌, subst}
use Rattle.std.proofs.lemmas.Bool.{and_parts, and_from}
use Rattle.finite.specs.Below.{any_below}
use Rattle.finite.proofs.Given.{given}
use Rattle.finite.proofs.Tests.{any_at, any_from}
use Rattle.net.specs.Model.{Model}
use Rattle.bisimulation.specs.Groups.{Equivalence, Equivalences}
use Rattle.bisimulation.specs.Rounds.{group_count, rounds, rest, final}
use Rattle.bisimulation.specs.Bisimulation.{Matching, Bisimulation, Holds, Alike}
use Rattle.bisimulation.specs.Correspondence.{Agree, Correspondence, Corresponding}
use Rattle.bisimulation.proofs.Equivalences.{final_equivalences}
use Rattle.bisimulation.proofs.Matchings.{matching_counts}
use Rattle.bisimulation.proofs.Agreement.{rounds_agree, rest_same}
use Rattle.bisimulation.proofs.Exchange.{iterated_exchange}
use Rattle.bisimulation.proofs.Pairings.{counts_match, same_group, counts_along}
use Rattle.bisimulation.proofs.Rest.{final_stable}
use Rattle.bisimulation.proofs.Largest.{final_place_labels, final_transition_labels, final_counts}

-- two bags have equally many tokens in groups at rest of places p and q
abbrev Even : Model → Model → (ℕ → ℕ) → (ℕ → ℕ) → ℕ → ℕ → Type 0
Even m n a b p q = group_count m.places (final m).same_place a p ≡ group_count n.places (final n).same_place b q

-- bags that match have equally many tokens in groups at rest of related places
match_even :
    (m n : Model) (place transition : ℕ → ℕ → Type 0) →
    Agree m n place transition (final m) (final n) →
    (a b : ℕ → ℕ) →
    Matching m.places n.places place a b →
    (p q : ℕ) → p < m.places → q < n.places → place p q → Even m n a b p q
match_even m n place transition A a b w p q k l e =
    matching_counts m.places n.places place a b w (final m).same_place (final n).same_place p q
    (λ x y i j r. A.on_places x p y q i k j l r e)

module _
    (m n : Model) (place transition : ℕ → ℕ → Type 0)
    (C : Correspondence m n place transition (final m) (final n))
  where
    even_match :
        (a b : ℕ → ℕ) →
        ((p q : ℕ) → p < m.places → q < n.places → place p q → Even m n a b p q) →
        Matching m.places n.places place a b
    even_match =
        counts_match m.places n.places place (final m).same_place (final n).same_place (final_equivalences n).on_places
        C.place_groups C.agree.on_places C.place_forth C.place_back

    -- what one of a group is related to, all of it are related to
    group_related :
        (t t' u : ℕ) → t < m.transitions → t' < m.transitions → u < n.transitions → transition t u → (final m).same_transition t t' ≡ true → transition t' u
    group_related t t' u i i' j e h =
        given (C.transition_forth t' i') λ v.
        C.transition_groups t' v.0 u i' v.1 j v.2
        ((final_equivalences n).on_transitions.turn u v.0 j v.1
        (sym (C.agree.on_transitions t t' u v.0 i i' j v.1 e v.2) ∙ h))

    correspondence_bisimulation : Bisimulation m n place transition
    correspondence_bisimulation =
        record {
          place_forth = C.place_forth;
          place_back = C.place_back;
          transition_forth = C.transition_forth;
          transition_back = C.transition_back;
          place_labels = C.place_labels;
          transition_labels = C.transition_labels;
          causes = λ t u i j e. even_match (m.cause t) (n.cause u) (λ p q k l. C.causes t u p q i j k l e);
          effects = λ t u i j e. even_match (m.effect t) (n.effect u) (λ p q k l. C.effects t u p q i j k l e);
          forth =
              λ t b i w.
              given (C.transition_forth t i) λ u.
              given (iterated_exchange n (final n) (final_equivalences n) (final_stable n) b u.0 u.1 (λ q l.
              given (C.place_back q l) λ p.
              sym (C.causes t u.0 p.0 q i u.1 p.1 l u.2 p.2)
              ∙ match_even m n place transition C.agree (m.cause t) b w p.0 q p.1 l p.2)) λ v.
              (v.0, v.1, v.3, C.transition_groups t u.0 v.0 i u.1 v.1 u.2 v.2);
          back =
              λ u a j w.
              given (C.transition_back u j) λ t.
              given (iterated_exchange m (final m) (final_equivalences m) (final_stable m) a t.0 t.1 (λ p k.
              given (C.place_forth p k) λ q.
              C.causes t.0 u p q.0 t.1 j k q.1 t.2 q.2
              ∙ sym (match_even m n place transition C.agree a (n.cause u) w p q.0 k q.1 q.2))) λ v.
              (v.0, v.1, v.3, group_related t.0 v.0 u t.1 v.1 j t.2 v.2);
        }

pub corresponding_alike : (m n : Model) → Corresponding m n → Alike m n
corresponding_alike m n c = (c.0, (c.1.0, correspondence_bisimulation m n (Holds c.0) (Holds c.1.0) c.1.1))

-- whether x is related to one of z's group
reaches : ℕ → (ℕ → ℕ → Bool) → (ℕ → ℕ → Bool) → ℕ → ℕ → Bool
reaches n test same x z = any_below n (λ y. test x y && same y z)

reaches_says :
    (n : ℕ) (test same : ℕ → ℕ → Bool) (x z : ℕ) → Holds (reaches n test same) x z → (y : ℕ) × (y < n) × Holds test x y × (same y z ≡ true)
unfolding reaches
reaches_says n test same x z h =
    given (any_at n _ h) λ y.
    given (and_parts _ _ y.2) λ e.
    (y.0, y.1, e.0, e.1)

says_reaches :
    (n : ℕ) (test same : ℕ → ℕ → Bool) (x y z : ℕ) → y < n → Holds test x y → same y z ≡ true → Holds (reaches n test same) x z
unfolding reaches
says_reaches n test same x y z l e h = any_from n _ y l (and_from _ _ e h)

module _ (n : ℕ) (test same : ℕ → ℕ → Bool) (E : Equivalence n same) where
  reaches_own : (x y : ℕ) → y < n → Holds test x y → Holds (reaches n test same) x y
  reaches_own x y l e = says_reaches n test same x y y l e (E.self y l)

  reaches_group : (x z z' : ℕ) → z < n → z' < n → Holds (reaches n test same) x z → same z z' ≡ true → Holds (reaches n test same) x z'
  reaches_group x z z' l l' h s =
      given (reaches_says n test same x z h) λ y.
      says_reaches n test same x y.0 z' y.1 y.2 (E.join y.0 z z' y.1 l l' y.3 s)

  reaches_agree :
      (k : ℕ) (old : ℕ → ℕ → Bool) →
      ((x x' y y' : ℕ) → x < k → x' < k → y < n → y' < n → Holds test x y → Holds test x' y' → old x x' ≡ same y y') →
      (x x' z z' : ℕ) → x < k → x' < k → z < n → z' < n →
      Holds (reaches n test same) x z → Holds (reaches n test same) x' z' → old x x' ≡ same z z'
  reaches_agree k old agree x x' z z' i i' l l' h h' =
      given (reaches_says n test same x z h) λ y.
      given (reaches_says n test same x' z' h') λ y'.
      agree x x' y.0 y'.0 i i' y.1 y'.1 y.2 y'.2
      ∙ same_group n same E y.0 y'.0 z z' y.1 y'.1 l l' y.3 y'.3

-- the groups at rest are carried along a bisimulation
final_agree :
    (m n : Model) (place transition : ℕ → ℕ → Type 0) → Bisimulation m n place transition → Agree m n place transition (final m) (final n)
unfolding final
final_agree m n place transition B =
    subst (λ k. Agree m n place transition (rounds m (rest m)) (rounds n k)) (rest_same m n place transition B)
    (rounds_agree m n place transition B (rest m))

bisimulation_correspondence :
    (m n : Model) (place transition : ℕ → ℕ → Bool) →
    Bisimulation m n (Holds place) (Holds transition) →
    Correspondence m n (Holds (reaches n.places place (final n).same_place)) (Holds (reaches n.transitions transition (final n).same_transition)) (final m) (final n)
bisimulation_correspondence m n place transition B =
    record {
      place_forth = λ p i. given (B.place_forth p i) λ q. (q.0, q.1, reaches_own _ place _ E.on_places p q.0 q.1 q.2);
      place_back = λ q j. given (B.place_back q j) λ p. (p.0, p.1, reaches_own _ place _ E.on_places p.0 q j p.2);
      transition_forth = λ t i. given (B.transition_forth t i) λ u. (u.0, u.1, reaches_own _ transition _ E.on_transitions t u.0 u.1 u.2);
      transition_back = λ u j. given (B.transition_back u j) λ t. (t.0, t.1, reaches_own _ transition _ E.on_transitions t.0 u j t.2);
      place_labels =
          λ p q i _ h.
          given (reaches_says _ place _ p q h) λ y.
          B.place_labels p y.0 i y.1 y.2 ∙ final_place_labels n y.0 q y.3;
      transition_labels =
          λ t u i _ h.
          given (reaches_says _ transition _ t u h) λ y.
          B.transition_labels t y.0 i y.1 y.2 ∙ final_transition_labels n y.0 u y.3;
      place_groups = λ p q q' _. reaches_group _ place _ E.on_places p q q';
      transition_groups = λ t u u' _. reaches_group _ transition _ E.on_transitions t u u';
      agree =
          record {
            on_places = reaches_agree _ place _ E.on_places _ _ A.on_places;
            on_transitions = reaches_agree _ transition _ E.on_transitions _ _ A.on_transitions;
          };
      causes =
          λ t u p q i j k l h g.
          given (reaches_says _ transition _ t u h) λ v.
          even (m.cause t) (n.cause v.0) (B.causes t v.0 i v.1 v.2) p q k l g
          ∙ (final_counts n v.0 u v.1 j v.3).causes q l;
      effects =
          λ t u p q i j k l h g.
          given (reaches_says _ transition _ t u h) λ v.
          even (m.effect t) (n.effect v.0) (B.effects t v.0 i v.1 v.2) p q k l g
          ∙ (final_counts n v.0 u v.1 j v.3).effects q l;
    }
  where
    E : Equivalences n (final n)
    E = final_equivalences n

    A : Agree m n (Holds place) (Holds transition) (final m) (final n)
    A = final_agree m n (Holds place) (Holds transition) B

    even :
        (a b : ℕ → ℕ) →
        Matching m.places n.places (Holds place) a b →
        (p q : ℕ) → p < m.places → q < n.places → Holds (reaches n.places place (final n).same_place) p q → Even m n a b p q
    even a b w p q k l h =
        given (reaches_says _ place _ p q h) λ y.
        match_even m n (Holds place) (Holds transition) A a b w p y.0 k y.1 y.2
        ∙ counts_along _ _ E.on_places b y.0 q y.1 l y.3

pub alike_corresponding : (m n : Model) → Alike m n → Corresponding m n
alike_corresponding m n a = (
  reaches n.places a.0 (final n).same_place,
  (reaches n.transitions a.1.0 (final n).same_transition, bisimulation_correspondence m n a.0 a.1.0 a.1.1),
)
