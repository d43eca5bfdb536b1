-- One weight of a net is replaced: the row of its transition, with the weight written, goes back among the rows.
use Rattle.std.proofs.Common.{◌≡◌, ℕ, ◌<◌, ◌≤◌, List, length, get_or, set, sum, sym, refl, ap, subst, ⊎_elim, inl, ◌∙◌, arith}
use Rattle.std.proofs.lemmas.Bool.{cases_eq}
use Rattle.std.proofs.lemmas.Bool.Decides.{nat_tests}
use Rattle.std.proofs.lemmas.List.{length-set, get_or-set_same, get_or-set_other}
use Rattle.std.specs.Prelude.{slice_index}
use Rattle.finite.specs.Below.{sum_below}
use Rattle.finite.proofs.Sums.{list_sum_of}
use Rattle.net.specs.Model.{Model, Lawful}
use Rattle.net.specs.Bags.{weights}
use Rattle.net.specs.declared.bag.Bag.{Bag}
use Rattle.net.specs.declared.bag.Bag.TheVariants.{Cause, Effect}
use Rattle.drawing.specs.Arrays.{bag_of, row_with, row_or_blank, Shows}
use Rattle.drawing.specs.Edits.{with_weight}
use Rattle.drawing.specs.Refusals.{size_of, weight_refusal}
use Rattle.drawing.specs.Drawn.{drawn, drawn_lawful}
use Rattle.drawing.specs.declared.arrays.Row.{Row}
use Rattle.drawing.specs.declared.Drawing.{Drawing}
use Rattle.drawing.proofs.Edited.{set_read, with_weight_outside, with_weight_lawful}
use Rattle.drawing.proofs.Held.{Holds, held, held_net, net_in}

shown_weights : (bag : Bag) (m : Model) (t : ℕ) (r : Row) → Shows m t r → (q : ℕ) → slice_index (bag_of bag r) q ≡ weights bag m t q
shown_weights Cause m t r h = h.cause
shown_weights Effect m t r h = h.effect

-- the row that is written shows the net with the weight
row_shows : (bag : Bag) (m : Model) (t p w : ℕ) (r : Row) → p < length (bag_of bag r) → Shows m t r → Shows (with_weight bag m t p w) t (row_with bag r p w)
row_shows Cause m t p w r l h = record { label = h.label; cause = λ q. set_read r.cause p w q l ∙ grind (arith, nat_tests, h.cause q); effect = h.effect }
row_shows Effect m t p w r l h = record { label = h.label; cause = h.cause; effect = λ q. set_read r.effect p w q l ∙ grind (arith, nat_tests, h.effect q) }

-- the other rows show it as they are
other_shows : (bag : Bag) (m : Model) (t p w u : ℕ) (r : Row) → (u ≡ t → ⊥) → Shows m u r → Shows (with_weight bag m t p w) u r
other_shows Cause m t p w u r ne h = record { label = h.label; cause = λ q. grind (arith, nat_tests, h.cause q); effect = h.effect }
other_shows Effect m t p w u r ne h = record { label = h.label; cause = h.cause; effect = λ q. grind (arith, nat_tests, h.effect q) }

size_with_weight : (bag : Bag) (m : Model) (t p w : ℕ) →
    size_of bag (with_weight bag m t p w) t ≡ sum_below m.places (weights bag (with_weight bag m t p w) t)
size_with_weight Cause m t p w = refl
size_with_weight Effect m t p w = refl

holds : (bag : Bag) (m : Model) (t p w : ℕ) (ls : List ℕ) (rs : List Row) → ((q : ℕ) → slice_index ls q ≡ m.place_label q) →
    ((u : ℕ) → Shows (with_weight bag m t p w) u (row_or_blank rs u)) → Holds (with_weight bag m t p w) m.places m.transitions ls rs
holds Cause m t p w ls rs labels rows = record { places = refl; transitions = refl; labels = labels; rows = rows }
holds Effect m t p w ls rs labels rows = record { places = refl; transitions = refl; labels = labels; rows = rows }

bag_of_row_with : (bag : Bag) (r : Row) (p w : ℕ) → bag_of bag (row_with bag r p w) ≡ set (bag_of bag r) p w
bag_of_row_with Cause r p w = refl
bag_of_row_with Effect r p w = refl

-- The row is that of a transition and a place that the drawing has, and xs are the weights of its bag, both with the weight written.
pub record Written (bag : Bag) (d : Drawing) (t p w : ℕ) (row : Row) (xs : List ℕ) : Type 0 where
  pub transition : t < d.arrays.transitions
  pub place : p < d.arrays.places
  pub stored : t < length d.arrays.rows
  pub row_is : row ≡ row_with bag (row_or_blank d.arrays.rows t) p w
  pub weights_are : xs ≡ set (bag_of bag (row_or_blank d.arrays.rows t)) p w
  pub long : length (bag_of bag (row_or_blank d.arrays.rows t)) ≡ 64

module _ (bag : Bag) (d : Drawing) (t p w : ℕ) (row : Row) (xs : List ℕ) (h : Written bag d t p w row xs) where
  shown : Shows (with_weight bag (drawn d) t p w) t row
  shown = subst (Shows (with_weight bag (drawn d) t p w) t) (sym h.row_is)
      (row_shows bag (drawn d) t p w (row_or_blank d.arrays.rows t)
      (omega (arith, h.place, d.arrays.few.0, h.long))
      (record { label = refl; cause = λ _. refl; effect = λ _. refl }))

  row_size : sum xs ≡ size_of bag (with_weight bag (drawn d) t p w) t
  row_size =
      list_sum_of xs d.arrays.places (weights bag (with_weight bag (drawn d) t p w) t) (omega (arith, h.long, ap length h.weights_are, length-set (bag_of bag (row_or_blank d.arrays.rows t)) p w, d.arrays.few.0))
      (λ q. ap (λ (ys : List ℕ). get_or ys q 0) (h.weights_are ∙ sym (ap (bag_of bag) h.row_is ∙ bag_of_row_with bag (row_or_blank d.arrays.rows t) p w)) ∙ shown_weights bag (with_weight bag (drawn d) t p w) t row shown q)
      (λ q past. with_weight_outside bag (drawn d) t p w (drawn_lawful d) h.transition h.place t q (inl past))
      ∙ sym (size_with_weight bag (drawn d) t p w)

  pub too_large : 255 < sum xs → 14 ≡ weight_refusal bag (drawn d) t p w
  too_large l = grind (arith, nat_tests, h.transition, h.place, row_size)

  pub allowed : sum xs ≤ 255 → 0 ≡ weight_refusal bag (drawn d) t p w
  allowed l = grind (arith, nat_tests, h.transition, h.place, row_size)

  rows_show : (u : ℕ) → Shows (with_weight bag (drawn d) t p w) u (row_or_blank (set d.arrays.rows t row) u)
  rows_show u = ⊎_elim
      (λ (e : u ≡ t). subst (λ (v : ℕ). Shows (with_weight bag (drawn d) t p w) v (row_or_blank (set d.arrays.rows t row) v)) (sym e)
      (subst (Shows (with_weight bag (drawn d) t p w) t) (sym (get_or-set_same d.arrays.rows t row _ h.stored)) shown))
      (λ (ne : u ≡ t → ⊥). subst (Shows (with_weight bag (drawn d) t p w) u) (sym (get_or-set_other d.arrays.rows t u row _ ne))
      (other_shows bag (drawn d) t p w u _ ne (record { label = refl; cause = λ _. refl; effect = λ _. refl })))
      (cases_eq u t)

  pub reweighed_net : net_in d.arrays.places d.arrays.transitions d.arrays.place_labels (set d.arrays.rows t row) ≡ with_weight bag (drawn d) t p w
  reweighed_net = held_net (with_weight bag (drawn d) t p w) _ _ _ _ (holds bag (drawn d) t p w _ _ (λ _. refl) rows_show)

  pub reweighed_held : sum xs ≤ 255 → Lawful (net_in d.arrays.places d.arrays.transitions d.arrays.place_labels (set d.arrays.rows t row))
  reweighed_held l = held (with_weight bag (drawn d) t p w) _ _ _ _ (holds bag (drawn d) t p w _ _ (λ _. refl) rows_show)
      (with_weight_lawful bag (drawn d) t p w (drawn_lawful d) h.transition h.place (omega (arith, row_size)))
