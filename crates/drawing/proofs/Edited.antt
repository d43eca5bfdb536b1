-- A lawful net stays lawful where one weight is replaced.
use Rattle.std.proofs.Common.{◌≡◌, ℕ, ◌<◌, ◌≤◌, List, length, get_or, set, sym, ◌∙◌, subst, ⊎_elim, arith}
use Rattle.std.proofs.lemmas.Bool.{cases_eq}
use Rattle.std.proofs.lemmas.Bool.Decides.{nat_tests}
use Rattle.std.proofs.lemmas.Grind.{common_steps}
use Rattle.finite.specs.Below.{sum_below}
use Rattle.finite.proofs.Sums.{sum_same}
use Rattle.net.specs.Model.{Model, Lawful, Outside, SmallBags}
use Rattle.drawing.specs.Edits.{replaced, reweighed, with_weight}
use Rattle.drawing.specs.Refusals.{size_of}
use Rattle.net.specs.Bags.{weights}
use Rattle.net.specs.declared.bag.Bag.{Bag}
use Rattle.net.specs.declared.bag.Bag.TheVariants.{Cause, Effect}

-- a list of numbers after a write at i
pub set_read : (xs : List ℕ) (i v k : ℕ) → i < length xs → get_or (set xs i v) k 0 ≡ replaced (λ j. get_or xs j 0) i v k
set_read xs i v k l = grind (arith, nat_tests, common_steps)

module _ (f : ℕ → ℕ → ℕ) (t p w : ℕ) where
  reweighed_other : (u q : ℕ) → ((u ≡ t) × (q ≡ p) → ⊥) → reweighed f t p w u q ≡ f u q
  reweighed_other u q ne = grind (arith, nat_tests)

  -- a weight within the range
  reweighed_outside : (n k : ℕ) → p < n → t < k → Outside n k f → Outside n k (reweighed f t p w)
  reweighed_outside n k a b h u q past =
      reweighed_other u q (λ e. ⊎_elim (λ (l : n ≤ q). omega (arith, e.1)) (λ (l : k ≤ u). omega (arith, e.0)) past) ∙ h u q past

  -- the other bags stay as they were
  reweighed_small : (n : ℕ) → sum_below n (reweighed f t p w t) ≤ 255 → SmallBags n f → SmallBags n (reweighed f t p w)
  reweighed_small n here small u = ⊎_elim
      (λ (e : u ≡ t). subst (λ (v : ℕ). sum_below n (reweighed f t p w v) ≤ 255) (sym e) here)
      (λ (ne : u ≡ t → ⊥). omega (arith, sum_same n (reweighed f t p w u) (f u) (λ q _. reweighed_other u q (λ e. ne e.0)), small u))
      (cases_eq u t)

pub with_weight_outside : (bag : Bag) (m : Model) (t p w : ℕ) → Lawful m → t < m.transitions → p < m.places →
    Outside m.places m.transitions (weights bag (with_weight bag m t p w))
with_weight_outside Cause m t p w h inT in_p = reweighed_outside m.cause t p w m.places m.transitions in_p inT h.causes
with_weight_outside Effect m t p w h inT in_p = reweighed_outside m.effect t p w m.places m.transitions in_p inT h.effects

pub with_weight_lawful : (bag : Bag) (m : Model) (t p w : ℕ) → Lawful m → t < m.transitions → p < m.places →
    size_of bag (with_weight bag m t p w) t ≤ 255 → Lawful (with_weight bag m t p w)
with_weight_lawful Cause m t p w h inT in_p small = record {
  few_places = h.few_places;
  few_transitions = h.few_transitions;
  place_labels = h.place_labels;
  transition_labels = h.transition_labels;
  sizes = (reweighed_small m.cause t p w m.places small h.sizes.0, h.sizes.1);
  causes = with_weight_outside Cause m t p w h inT in_p;
  effects = h.effects;
}
with_weight_lawful Effect m t p w h inT in_p small = record {
  few_places = h.few_places;
  few_transitions = h.few_transitions;
  place_labels = h.place_labels;
  transition_labels = h.transition_labels;
  sizes = (h.sizes.0, reweighed_small m.effect t p w m.places small h.sizes.1);
  causes = h.causes;
  effects = with_weight_outside Effect m t p w h inT in_p;
}
