-- A lawful net, put in an order, is lawful.
use Rattle.std.proofs.Common.{ℕ, ◌<◌, ◌≤◌, cond, ltb, inl, inr, ⊎_elim, arith}
use Rattle.std.proofs.lemmas.Bool.{cases_lt, cond_both}
use Rattle.finite.specs.Injections.{Injects}
use Rattle.finite.proofs.Sums.{sum_same, sum_zero}
use Rattle.finite.proofs.Injections.{sum_injects}
use Rattle.net.specs.Model.{Model, Lawful, Labelled, Outside, SmallBags}
use Rattle.arrangement.specs.Arrangements.{Arrangement, Distinct, ordered, reordered, standing, arranged}
use Rattle.arrangement.proofs.Ordered.{outside, inside_both, outside_left, outside_right}

-- labels taken in an order
labels_ordered : (n k : ℕ) (label order : ℕ → ℕ) → Labelled k label → Labelled n (λ i. cond (ltb i n) (label (order i)) 0)
labels_ordered n k label order h = (
  λ i. cond_both (ltb i n) (label (order i)) 0 (λ x. x ≤ 1023) (λ _. h.0 (order i)) (λ _. omega arith),
  λ i l. outside n (label (order i)) i l,
)

module _ (m : Model) (a ts : ℕ → ℕ) (weight : ℕ → ℕ → ℕ) where
  weights_outside : Outside m.places m.transitions (reordered m a ts weight)
  weights_outside j i (inl h) = outside_right _ _ _ j i h
  weights_outside j i (inr h) = outside_left _ _ _ j i h

  bags_small : Injects a m.places m.places → SmallBags m.places weight → SmallBags m.places (reordered m a ts weight)
  bags_small inj small j = ⊎_elim
      (λ (h : j < m.transitions). omega (
        arith,
        sum_same m.places (reordered m a ts weight j) (λ i. weight (ts j) (a i)) (λ i l. inside_both _ _ _ j i h l),
        sum_injects a m.places m.places (weight (ts j)) inj,
        small (ts j),
      ))
      (λ (h : m.transitions ≤ j). omega (arith, sum_zero m.places (reordered m a ts weight j) (λ i _. outside_left _ _ _ j i h)))
      (cases_lt j m.transitions)

pub ordered_lawful : (m : Model) (a ts : ℕ → ℕ) → Lawful m → Injects a m.places m.places → Lawful (ordered m a ts)
ordered_lawful m a ts w inj = record {
  few_places = w.few_places;
  few_transitions = w.few_transitions;
  place_labels = labels_ordered m.places m.places m.place_label a w.place_labels;
  transition_labels = labels_ordered m.transitions m.transitions m.transition_label ts w.transition_labels;
  sizes = (bags_small m a ts m.cause inj w.sizes.0, bags_small m a ts m.effect inj w.sizes.1);
  causes = weights_outside m a ts m.cause;
  effects = weights_outside m a ts m.effect;
}

pub arranged_lawful : (m : Model) (a : ℕ → ℕ) → Lawful m → Distinct m → Arrangement m a → Lawful (arranged m a)
arranged_lawful m a w d o = ordered_lawful m a (standing m a) w o.permutes
