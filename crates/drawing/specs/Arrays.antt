-- The net that a drawing's arrays hold. Assumes nothing.
use Rattle.std.specs.Prelude.{◌≡◌, ℕ, List, [], slice_index, slice_index_or, slice_set}
use Rattle.net.specs.Model.{Model}
use Rattle.net.specs.declared.bag.Bag.{Bag}
use Rattle.net.specs.declared.bag.Bag.TheVariants.{Cause, Effect}
use Rattle.drawing.specs.declared.arrays.Arrays.{Arrays}
use Rattle.drawing.specs.declared.arrays.Row.{Row}

-- the weights of one bag of a row
abbrev pub bag_of : Bag → Row → List ℕ
bag_of Cause r = r.cause
bag_of Effect r = r.effect

-- a row with the weight w at place p of one bag
abbrev pub row_with : Bag → Row → ℕ → ℕ → Row
row_with Cause r p w = record r { cause = slice_set r.cause p w }
row_with Effect r p w = record r { effect = slice_set r.effect p w }

-- row t, and past the last one with label 0 and no weights
abbrev pub row_or_blank : List Row → ℕ → Row
row_or_blank rows t = slice_index_or rows t (record { label = 0; cause = []; effect = [] })

-- the row holds transition t of the net
pub record Shows (m : Model) (t : ℕ) (r : Row) : Type 0 where
  pub label : r.label ≡ m.transition_label t
  pub cause : (p : ℕ) → slice_index r.cause p ≡ m.cause t p
  pub effect : (p : ℕ) → slice_index r.effect p ≡ m.effect t p

abbrev pub model_of : Arrays → Model
model_of a = record {
  places = a.places;
  transitions = a.transitions;
  place_label = λ p. slice_index a.place_labels p;
  transition_label = λ t. (row_or_blank a.rows t).label;
  cause = λ t p. slice_index (row_or_blank a.rows t).cause p;
  effect = λ t p. slice_index (row_or_blank a.rows t).effect p;
}
