-- Arrays that hold a lawful net keep the limits of a drawing.
use Rattle.std.proofs.Common.{◌≡◌, ℕ, List, sym, subst}
use mathlib.Core.Path.{fun_ext}
use Rattle.std.specs.Prelude.{slice_index}
use Rattle.net.specs.Model.{Model, Lawful}
use Rattle.net.proofs.Agrees.{same_answers}
use Rattle.drawing.specs.Arrays.{row_or_blank, Shows}
use Rattle.drawing.specs.declared.arrays.Row.{Row}

-- the net that counts, labels of places and rows of transitions hold
abbrev pub net_in : ℕ → ℕ → List ℕ → List Row → Model
net_in places transitions labels rows = record {
  places = places;
  transitions = transitions;
  place_label = λ p. slice_index labels p;
  transition_label = λ t. (row_or_blank rows t).label;
  cause = λ t p. slice_index (row_or_blank rows t).cause p;
  effect = λ t p. slice_index (row_or_blank rows t).effect p;
}

-- n places, k transitions, labels and rows hold the net
pub record Holds (m : Model) (n k : ℕ) (ls : List ℕ) (rs : List Row) : Type 0 where
  pub places : n ≡ m.places
  pub transitions : k ≡ m.transitions
  pub labels : (p : ℕ) → slice_index ls p ≡ m.place_label p
  pub rows : (t : ℕ) → Shows m t (row_or_blank rs t)

module _ (m : Model) (n k : ℕ) (ls : List ℕ) (rs : List Row) (h : Holds m n k ls rs) where
  pub held_net : net_in n k ls rs ≡ m
  held_net = same_answers _ _ h.places h.transitions (fun_ext h.labels) (fun_ext (λ t. (h.rows t).label))
      (fun_ext (λ t. fun_ext (h.rows t).cause)) (fun_ext (λ t. fun_ext (h.rows t).effect))

  pub held : Lawful m → Lawful (net_in n k ls rs)
  held = subst Lawful (sym held_net)
