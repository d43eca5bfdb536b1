-- A lawful net folded by any equivalences is lawful.
use Rattle.std.proofs.Common.{◌≡◌, ℕ, ◌<◌, ◌≤◌, Bool, cond, ltb, sym, ◌∙◌, inl, inr, arith}
use Rattle.std.proofs.lemmas.Bool.{and_from, and_left, and_right, cases_lt, ne_eqb, lt-ltb, le-ltb, cond-true, cond-false, cond_both}
use Rattle.finite.specs.Below.{sum_below}
use Rattle.finite.proofs.Sums.{sum_same, sum_zero, sum_one, sum_turned}
use Rattle.net.specs.Model.{Model, Lawful, Labelled, Outside, SmallBags, highest_label}
use Rattle.bisimulation.specs.Groups.{Groups, Equivalence, Equivalences}
use Rattle.bisimulation.specs.Rounds.{group_count, final}
use Rattle.bisimulation.specs.Leaders.{groups, group_of, leader}
use Rattle.bisimulation.specs.Folding.{leader_label, folded_weight, fold, folded}
use Rattle.bisimulation.proofs.Equivalences.{final_equivalences}
use Rattle.bisimulation.proofs.Leaders.{groups_most, group_lands, group_test, leader_lands, leader_same}

-- the label and the weights of a group
pub label_is : (same : ℕ → ℕ → Bool) (n : ℕ) (label : ℕ → ℕ) (g : ℕ) → g < groups same n → leader_label same n label g ≡ label (leader same n g)
label_is same n label g l = cond-true _ _ _ (lt-ltb _ _ l)

pub weight_is :
    (m : Model) (r : Groups) (weight : ℕ → ℕ → ℕ) (h g : ℕ) →
    h < groups r.same_transition m.transitions →
    g < groups r.same_place m.places →
    folded_weight m r weight h g ≡ group_count m.places r.same_place (weight (leader r.same_transition m.transitions h)) (leader r.same_place m.places g)
weight_is m r weight h g l k = cond-true _ _ _ (and_from _ _ (lt-ltb _ _ l) (lt-ltb _ _ k))

fold_labels : (same : ℕ → ℕ → Bool) (n : ℕ) (label : ℕ → ℕ) → Labelled n label → Labelled (groups same n) (leader_label same n label)
fold_labels same n label h = (
  λ g. cond_both (ltb g (groups same n)) (label (leader same n g)) 0 (λ x. x ≤ highest_label) (λ _. h.0 (leader same n g)) (λ _. omega arith),
  λ g l. cond-false _ _ _ (le-ltb _ _ l),
)

pub fold_outside :
    (m : Model) (r : Groups) (weight : ℕ → ℕ → ℕ) →
    Outside (groups r.same_place m.places) (groups r.same_transition m.transitions) (folded_weight m r weight)
fold_outside m r weight h g (inl l) = cond-false _ _ _ (and_right _ _ (le-ltb g (groups r.same_place m.places) l))
fold_outside m r weight h g (inr l) = cond-false _ _ _ (and_left _ _ (le-ltb h (groups r.same_transition m.transitions) l))

-- the counts of all groups add up to the bag's size
counts_sum : (n : ℕ) (same : ℕ → ℕ → Bool) → Equivalence n same → (a : ℕ → ℕ) → sum_below (groups same n) (λ g. group_count n same a (leader same n g)) ≡ sum_below n a
unfolding group_count
counts_sum n same E a =
    sum_turned (groups same n) n (λ g p. cond (same p (leader same n g)) (a p) 0)
    ∙ sum_same n _ _ (λ p l.
    sum_one (groups same n) (λ g. cond (same p (leader same n g)) (a p) 0) (group_of same n p) (group_lands n same E p l)
    (λ g k s. cond-false _ _ _ (sym (group_test n same E p g l k) ∙ ne_eqb _ _ (λ e. s (sym e))))
    ∙ cond-true _ _ _ (E.turn _ p (leader_lands n same E _ (group_lands n same E p l)) l (leader_same n same E p l)))

fold_small :
    (m : Model) (r : Groups) → Equivalences m r → (weight : ℕ → ℕ → ℕ) →
    SmallBags m.places weight → SmallBags (groups r.same_place m.places) (folded_weight m r weight)
fold_small m r E weight small h =
    elim (cases_lt h (groups r.same_transition m.transitions)) [
      | inl l ↦
          omega (
            arith,
            sum_same (groups r.same_place m.places) _ _ (λ g k. weight_is m r weight h g l k),
            counts_sum m.places r.same_place E.on_places (weight (leader r.same_transition m.transitions h)),
            small (leader r.same_transition m.transitions h),
          )
      | inr l ↦ omega (arith, sum_zero (groups r.same_place m.places) (folded_weight m r weight h) (λ g _. fold_outside m r weight h g (inr l)))
    ]

pub fold_lawful : (m : Model) (r : Groups) → Equivalences m r → Lawful m → Lawful (fold m r)
fold_lawful m r E L =
    record {
      few_places = omega (arith, L.few_places, groups_most m.places r.same_place);
      few_transitions = omega (arith, L.few_transitions, groups_most m.transitions r.same_transition);
      place_labels = fold_labels r.same_place m.places m.place_label L.place_labels;
      transition_labels = fold_labels r.same_transition m.transitions m.transition_label L.transition_labels;
      sizes = (fold_small m r E m.cause L.sizes.0, fold_small m r E m.effect L.sizes.1);
      causes = fold_outside m r m.cause;
      effects = fold_outside m r m.effect;
    }

pub folded_lawful_lem : (m : Model) → Lawful m → Lawful (folded m)
folded_lawful_lem m = fold_lawful m (final m) (final_equivalences m)
