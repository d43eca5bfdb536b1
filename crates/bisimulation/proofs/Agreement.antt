-- A bisimulation carries each round of one net to the same round of the other.
use Rattle.std.proofs.Common.{◌≡◌, ℕ, zero, suc, ◌<◌, true, eqb, List, ◌∷◌, sym, refl, ◌∙◌, ap₂, arith}
use Rattle.finite.proofs.Given.{given}
use Rattle.finite.proofs.Tests.{same_test}
use Rattle.net.specs.Model.{Model}
use Rattle.bisimulation.specs.Groups.{Groups}
use Rattle.bisimulation.specs.Rounds.{refine, rounds, Stable, rest}
use Rattle.bisimulation.specs.Bisimulation.{count_first, count_second, Matching, Bisimulation}
use Rattle.bisimulation.specs.Correspondence.{Agree}
use Rattle.bisimulation.proofs.Bags.{unit_self}
use Rattle.bisimulation.proofs.Views.{Exchanges, SameCounts, place_says, says_place, transition_says, says_transition}
use Rattle.bisimulation.proofs.Matchings.{bisimulation_back, take_out, matching_counts}
use Rattle.bisimulation.proofs.Rest.{rest_stable, rest_least, rest_is}

agree_back : (m n : Model) (place transition : ℕ → ℕ → Type 0) (r s : Groups) → Agree m n place transition r s → Agree n m (λ x y. place y x) (λ x y. transition y x) s r
agree_back m n place transition r s A =
    record {
      on_places = λ p p' q q' i i' j j' e e'. sym (A.on_places q q' p p' j j' i i' e e');
      on_transitions = λ t t' u u' i i' j j' e e'. sym (A.on_transitions u u' t t' j j' i i' e e');
    }

module _
    (m n : Model) (place transition : ℕ → ℕ → Type 0) (r s : Groups)
    (B : Bisimulation m n place transition)
    (A : Agree m n place transition r s)
  where
    -- an exchange of p by p' in m gives one of q by q' in n
    carry_exchange :
        (p p' q q' : ℕ) → p < m.places → p' < m.places → q < n.places → q' < n.places → place p q → place p' q' → Exchanges m r p p' → Exchanges n s q q'
    unfolding count_first count_second
    carry_exchange p p' q q' i i' j j' e e' x u k d =
        -- t is related to u, by the list w of pairs; in b one of them, with q as its second, is taken out
        given (B.transition_back u k) λ t.
        given (B.causes t.0 u t.1 k t.2) λ w.
        given (take_out m.places n.places place w.pairs q w.paired (omega (arith, w.seconds q j))) λ b.
        let xs : List (ℕ × ℕ) = (p, q) ∷ b.rest in
        let ys : List (ℕ × ℕ) = (p', q') ∷ b.rest in
        -- with (p, q) in its place
        given (B.back u (λ z. count_first z xs) k (record { pairs = xs; paired = (i, j, e, b.paired); firsts = λ z _. refl; seconds = λ z l. sym (b.seconds z) ∙ w.seconds z l })) λ t'.
        given (x t'.0 t'.1 (omega (arith, t'.2 p i, unit_self p))) λ c.
        -- with (p', q') in its place
        given (B.forth c.0 (λ z. count_second z ys) c.1 (record { pairs = ys; paired = (i', j', e', b.paired); firsts = λ z l. omega (arith, c.3 z l, t'.2 z l); seconds = λ z _. refl })) λ v. (
          v.0,
          v.1,
          sym (A.on_transitions t'.0 c.0 u v.0 t'.1 c.1 k v.1 t'.3 v.3) ∙ c.2,
          λ z l. omega (arith, v.2 z l, b.seconds z, w.seconds z l),
        )

    -- bags of m with equal counts match bags of n with equal counts
    carry_counts :
        (a a' b b' : ℕ → ℕ) →
        Matching m.places n.places place a b →
        Matching m.places n.places place a' b' →
        SameCounts m r a a' →
        SameCounts n s b b'
    carry_counts a a' b b' w w' c h l =
        given (B.place_back h l) λ g.
        let f : (x y : ℕ) → x < m.places → y < n.places → place x y → r.same_place x g.0 ≡ s.same_place y h =
        λ x y i j e. A.on_places x g.0 y h i g.1 j l e g.2 in
        sym (matching_counts m.places n.places place a b w r.same_place s.same_place g.0 h f)
        ∙ c g.0 g.1
        ∙ matching_counts m.places n.places place a' b' w' r.same_place s.same_place g.0 h f

    carry_place :
        (p p' q q' : ℕ) →
        p < m.places →
        p' < m.places →
        q < n.places →
        q' < n.places →
        place p q →
        place p' q' →
        (refine m r).same_place p p' ≡ true →
        (refine n s).same_place q q' ≡ true
    carry_place p p' q q' i i' j j' e e' h =
        given (place_says m r p p' h) λ c.
        says_place n s q q'
        (record {
          before = sym (A.on_places p p' q q' i i' j j' e e') ∙ c.before;
          there = carry_exchange p p' q q' i i' j j' e e' c.there;
          return = carry_exchange p' p q' q i' i j' j e' e c.return;
        })

    carry_transition :
        (t t' u u' : ℕ) →
        t < m.transitions →
        t' < m.transitions →
        u < n.transitions →
        u' < n.transitions →
        transition t u →
        transition t' u' →
        (refine m r).same_transition t t' ≡ true →
        (refine n s).same_transition u u' ≡ true
    carry_transition t t' u u' i i' j j' e e' h =
        given (transition_says m r t t' h) λ c.
        says_transition n s u u'
        (record {
          before = sym (A.on_transitions t t' u u' i i' j j' e e') ∙ c.before;
          causes = carry_counts _ _ _ _ (B.causes t u i j e) (B.causes t' u' i' j' e') c.causes;
          effects = carry_counts _ _ _ _ (B.effects t u i j e) (B.effects t' u' i' j' e') c.effects;
        })

-- one round keeps the agreement
pub refine_agrees :
    (m n : Model) (place transition : ℕ → ℕ → Type 0) (r s : Groups) →
    Bisimulation m n place transition →
    Agree m n place transition r s →
    Agree m n place transition (refine m r) (refine n s)
refine_agrees m n place transition r s B A =
    let B' = bisimulation_back m n place transition B in
    let A' = agree_back m n place transition r s A in
    record {
      on_places =
          λ p p' q q' i i' j j' e e'.
          same_test _ _
          (carry_place m n place transition r s B A p p' q q' i i' j j' e e')
          (carry_place n m (λ x y. place y x) (λ x y. transition y x) s r B' A' q q' p p' j j' i i' e e');
      on_transitions =
          λ t t' u u' i i' j j' e e'.
          same_test _ _
          (carry_transition m n place transition r s B A t t' u u' i i' j j' e e')
          (carry_transition n m (λ x y. place y x) (λ x y. transition y x) s r B' A' u u' t t' j j' i i' e e');
    }

pub rounds_agree :
    (m n : Model) (place transition : ℕ → ℕ → Type 0) →
    Bisimulation m n place transition →
    (k : ℕ) →
    Agree m n place transition (rounds m k) (rounds n k)
unfolding rounds
rounds_agree m n place transition B zero =
    record {
      on_places = λ p p' q q' i i' j j' e e'. ap₂ eqb (B.place_labels p q i j e) (B.place_labels p' q' i' j' e');
      on_transitions = λ t t' u u' i i' j j' e e'. ap₂ eqb (B.transition_labels t u i j e) (B.transition_labels t' u' i' j' e');
    }
rounds_agree m n place transition B (suc k) = refine_agrees m n place transition (rounds m k) (rounds n k) B (rounds_agree m n place transition B k)

stable_carried : (m n : Model) (place transition : ℕ → ℕ → Type 0) → Bisimulation m n place transition → (k : ℕ) → Stable m (rounds m k) → Stable n (rounds n k)
stable_carried m n place transition B k S =
    given (rounds_agree m n place transition B k) λ A.
    given (refine_agrees m n place transition (rounds m k) (rounds n k) B A) λ A'.
    record {
      on_places =
          λ q q' l j h.
          given (B.place_back q l) λ p.
          given (B.place_back q' j) λ p'.
          sym (A'.on_places p.0 p'.0 q q' p.1 p'.1 l j p.2 p'.2)
          ∙ S.on_places p.0 p'.0 p.1 p'.1 (A.on_places p.0 p'.0 q q' p.1 p'.1 l j p.2 p'.2 ∙ h);
      on_transitions =
          λ u u' l j h.
          given (B.transition_back u l) λ t.
          given (B.transition_back u' j) λ t'.
          sym (A'.on_transitions t.0 t'.0 u u' t.1 t'.1 l j t.2 t'.2)
          ∙ S.on_transitions t.0 t'.0 t.1 t'.1 (A.on_transitions t.0 t'.0 u u' t.1 t'.1 l j t.2 t'.2 ∙ h);
    }

-- so both nets come to rest in the same round
pub rest_same : (m n : Model) (place transition : ℕ → ℕ → Type 0) → Bisimulation m n place transition → rest m ≡ rest n
rest_same m n place transition B =
    sym (
    rest_is n (rest m) (stable_carried m n place transition B (rest m) (rest_stable m))
    (λ j l S. rest_least m j l (stable_carried n m _ _ (bisimulation_back m n place transition B) j S))
    )
