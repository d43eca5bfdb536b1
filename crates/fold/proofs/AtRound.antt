-- A grouping after k rounds that parted something, and what the next round makes of it.
use Rattle.std.proofs.Common.{◌≡◌, ℕ, ◌+◌, ◌<◌, ◌≤◌, true, false, ◌&&◌, eqb, sym, ◌∙◌, subst, ⊎_elim, add-one, arith}
use Rattle.std.proofs.lemmas.Bool.{cases_eq, and_parts, and_cases, eqb-true, eqb-false}
use Rattle.finite.proofs.Given.{given}
use Rattle.net.specs.Model.{Model, Lawful}
use Rattle.bisimulation.specs.Groups.{Equivalences}
use Rattle.bisimulation.specs.Rounds.{label_groups, refine, rounds, Stable, rest, final}
use Rattle.bisimulation.proofs.Equivalences.{refine_equivalences, rounds_equivalences}
use Rattle.bisimulation.proofs.Leaders.{groups_most}
use Rattle.bisimulation.proofs.Ranges.{refine_same}
use Rattle.bisimulation.proofs.Rest.{refine_within, rest_is}
use Rattle.bisimulation.proofs.Splits.{even_stable, stable_even}
use Rattle.fold.specs.declared.grouping.Grouping.{Grouping}
use Rattle.fold.specs.Grouped.{groups_of}
use Rattle.fold.proofs.Dividing.{DividesNet, divides_same, divides_like}
use Rattle.fold.proofs.Growth.{groups_le}

module _ (m : Model) where
  -- k rounds parted something, and the grouping divides as the last of them does
  pub record AtRound (k : ℕ) (g : Grouping) : Type 0 where
    pub divides : DividesNet m (rounds m k) g
    pub moving : (j : ℕ) → j < k → Stable m (rounds m j) → ⊥
    pub counted : k ≤ g.places.groups + g.transitions.groups

  pub at_labels : (g : Grouping) → DividesNet m (label_groups m) g → AtRound 0 g
  unfolding rounds
  at_labels g d = record { divides = d; moving = λ j l s. omega arith; counted = omega arith }

  -- at most so many rounds
  pub few_rounds : Lawful m → (k : ℕ) (g : Grouping) → AtRound k g → k ≤ 192
  few_rounds law k g a = omega (
    arith,
    a.counted,
    a.divides.on_places.number,
    a.divides.on_transitions.number,
    groups_most m.places (rounds m k).same_place,
    groups_most m.transitions (rounds m k).same_transition,
    law.few_places,
    law.few_transitions,
  )

  module _ (k : ℕ) (g next : Grouping) (a : AtRound k g) (step : DividesNet m (refine m (groups_of g)) next) where
    E : Equivalences m (rounds m k)
    E = rounds_equivalences m k

    divided : DividesNet m (refine m (rounds m k)) next
    divided = divides_like m (refine m (groups_of g)) (refine m (rounds m k)) next
        (refine_same m (groups_of g) (rounds m k) (divides_same m (rounds m k) g E a.divides)) step

    -- as many groups: at rest
    module _ (even : true ≡ (eqb next.places.groups g.places.groups && eqb next.transitions.groups g.transitions.groups)) where
      pub rested : rest m ≡ k
      rested =
          given (and_parts _ _ (sym even)) λ e.
          rest_is m k (even_stable m (rounds m k) E
          (sym a.divides.on_places.number ∙ sym (eqb-true _ _ e.0) ∙ divided.on_places.number)
          (sym a.divides.on_transitions.number ∙ sym (eqb-true _ _ e.1) ∙ divided.on_transitions.number)) a.moving

      pub final_divided : DividesNet m (final m) g
      unfolding final
      final_divided = subst (λ (j : ℕ). DividesNet m (rounds m j) g) (sym rested) a.divides

    -- more groups: the next round
    module _ (uneven : false ≡ (eqb next.places.groups g.places.groups && eqb next.transitions.groups g.transitions.groups)) where
      parted : Stable m (rounds m k) → ⊥
      parted s =
          given (stable_even m (rounds m k) s) λ e.
          ⊎_elim
          (λ h. eqb-false _ _ h (divided.on_places.number ∙ sym e.0 ∙ sym a.divides.on_places.number))
          (λ h. eqb-false _ _ h (divided.on_transitions.number ∙ sym e.1 ∙ sym a.divides.on_transitions.number))
          (and_cases _ _ (sym uneven))

      more : k + 1 ≤ next.places.groups + next.transitions.groups
      more =
          given (refine_equivalences m (rounds m k) E) λ F.
          given (groups_le m.places _ _ E.on_places F.on_places (refine_within m (rounds m k)).on_places) λ p.
          given (groups_le m.transitions _ _ E.on_transitions F.on_transitions (refine_within m (rounds m k)).on_transitions) λ t.
          ⊎_elim
          (λ (h : eqb next.places.groups g.places.groups ≡ false). omega (arith, eqb-false next.places.groups g.places.groups h, p, t, a.counted, a.divides.on_places.number, a.divides.on_transitions.number, divided.on_places.number, divided.on_transitions.number))
          (λ (h : eqb next.transitions.groups g.transitions.groups ≡ false). omega (arith, eqb-false next.transitions.groups g.transitions.groups h, p, t, a.counted, a.divides.on_places.number, a.divides.on_transitions.number, divided.on_places.number, divided.on_transitions.number))
          (and_cases _ _ (sym uneven))

      pub at_next : AtRound (k + 1) next
      unfolding rounds
      at_next = record {
        divides = subst (λ (j : ℕ). DividesNet m (rounds m j) next) (sym (add-one k)) divided;
        moving = λ j l s. ⊎_elim
            (λ (e : j ≡ k). parted (subst (λ (i : ℕ). Stable m (rounds m i)) e s))
            (λ (e : j ≡ k → ⊥). a.moving j (omega arith) s)
            (cases_eq j k);
        counted = more;
      }
