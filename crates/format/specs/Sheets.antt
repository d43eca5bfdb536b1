-- The sheet of a net, and the net of a sheet. Assumes nothing.
use Rattle.std.specs.Prelude.{◌≡◌, ℕ, ◌+◌, ◌-◌, ◌*◌, ◌%◌, ◌^◌, ◌<◌, ◌≤◌, Bool, cond, not, ◌&&◌, List, [], ◌∷◌, ◌++◌, length, ◌==◌, nat_le, nat_lt, slice_index}
use Rattle.finite.specs.Below.{sum_below, all_below}
use Rattle.net.specs.Model.{Model, Lawful, most_places, most_transitions, largest_bag}
use Rattle.format.specs.Fields.{Field, each, packed, bytes_for, fill_for, field_at}

-- the number of the form of a sheet
abbrev pub form_number : ℕ
form_number = 1

-- the widths of the fields, in bits: the form, the two counts, a label, a weight; and of the first three together
abbrev pub form_width : ℕ
form_width = 4

abbrev pub places_width : ℕ
places_width = 7

abbrev pub transitions_width : ℕ
transitions_width = 8

abbrev pub label_width : ℕ
label_width = 10

abbrev pub weight_width : ℕ
weight_width = 8

abbrev pub head_width : ℕ
head_width = form_width + places_width + transitions_width

-- the bytes of the longest sheet
abbrev pub longest_sheet : ℕ
longest_sheet = 16627

-- the form, the number of places and the number of transitions
abbrev pub head_of : Model → List Field
head_of m = (form_width, form_number) ∷ (places_width, m.places) ∷ (transitions_width, m.transitions) ∷ []

-- the label of each place
abbrev pub labels_of : Model → List Field
labels_of m = each (λ p. (label_width, m.place_label p) ∷ []) m.places

-- a bag over n places
abbrev pub weights_of : (ℕ → ℕ) → ℕ → List Field
weights_of bag n = each (λ p. (weight_width, bag p) ∷ []) n

-- a transition: its label, its cause and its effect
abbrev pub row_of : Model → ℕ → List Field
row_of m t = (label_width, m.transition_label t) ∷ (weights_of (m.cause t) m.places ++ weights_of (m.effect t) m.places)

abbrev pub rows_of : Model → List Field
rows_of m = each (row_of m) m.transitions

abbrev pub fields_of : Model → List Field
fields_of m = head_of m ++ (labels_of m ++ rows_of m)

-- the sheet of a net
abbrev pub sheet_of : Model → List ℕ
sheet_of m = packed (fields_of m)

-- the bit at which the label of place p begins, and, where there are n places, the row of transition t; at the number of transitions the fields end
abbrev pub label_at : ℕ → ℕ
label_at p = head_width + label_width * p

abbrev pub row_at : ℕ → ℕ → ℕ
row_at n t = label_at n + t * (label_width + 2 * weight_width * n)

abbrev pub form_of : List ℕ → ℕ
form_of bs = field_at bs 0 form_width

abbrev pub places_of : List ℕ → ℕ
places_of bs = field_at bs form_width places_width

abbrev pub transitions_of : List ℕ → ℕ
transitions_of bs = field_at bs (form_width + places_width) transitions_width

abbrev pub bits_of : List ℕ → ℕ
bits_of bs = row_at (places_of bs) (transitions_of bs)

-- the weights that stand from bit o on
abbrev pub weights_from : List ℕ → ℕ → ℕ → ℕ
weights_from bs o p = field_at bs (o + weight_width * p) weight_width

-- the weights of transition t that begin `skip` bits after its label, 0 outside the range
abbrev pub weight_at : List ℕ → ℕ → ℕ → ℕ → ℕ
weight_at bs skip t p = cond (nat_lt t (transitions_of bs) && nat_lt p (places_of bs)) (weights_from bs (row_at (places_of bs) t + label_width + skip) p) 0

-- the net of a sheet
abbrev pub net_of : List ℕ → Model
net_of bs = record {
  places = places_of bs;
  transitions = transitions_of bs;
  place_label = λ p. cond (nat_lt p (places_of bs)) (field_at bs (label_at p) label_width) 0;
  transition_label = λ t. cond (nat_lt t (transitions_of bs)) (field_at bs (row_at (places_of bs) t) label_width) 0;
  cause = weight_at bs 0;
  effect = weight_at bs (weight_width * places_of bs);
}

-- the size of the n weights of transition t that begin `skip` bits after its label
abbrev pub size_at : List ℕ → ℕ → ℕ → ℕ → ℕ
size_at bs n skip t = sum_below n (weights_from bs (row_at n t + label_width + skip))

-- cause and effect of transition t, of n places, have sizes within the limit
abbrev pub light_at : List ℕ → ℕ → ℕ → Bool
light_at bs n t = nat_le (size_at bs n 0 t) largest_bag && nat_le (size_at bs n (weight_width * n) t) largest_bag

-- no cause or effect has a size past the limit
abbrev pub light_rows : List ℕ → Bool
light_rows bs = all_below (transitions_of bs) (light_at bs (places_of bs))

-- the bits after the fields, as a number
abbrev pub fill_of : List ℕ → ℕ
fill_of bs = slice_index bs (length bs - 1) % 2 ^ fill_for (bits_of bs)

-- A lawful sheet, by its fields.
pub record LawfulSheet (bs : List ℕ) : Type 0 where
  pub long : 3 ≤ length bs
  pub form : form_of bs ≡ form_number
  pub places : places_of bs ≤ most_places
  pub transitions : transitions_of bs ≤ most_transitions
  pub sized : length bs ≡ bytes_for (bits_of bs)
  pub causes : (t : ℕ) → t < transitions_of bs → size_at bs (places_of bs) 0 t ≤ largest_bag
  pub effects : (t : ℕ) → t < transitions_of bs → size_at bs (places_of bs) (weight_width * places_of bs) t ≤ largest_bag
  pub filled : fill_of bs ≡ 0

-- The bytes are the sheet of some lawful net.
abbrev pub SheetOfNet : List ℕ → Type 0
SheetOfNet bs = (m : Model) × (Lawful m × (sheet_of m ≡ bs))

-- The number of the first condition that refuses the bytes, 0 where none does.
unfoldable pub sheet_refusal : List ℕ → ℕ
sheet_refusal bs =
    cond (nat_lt (length bs) 3) 1
    (cond (not (form_of bs == form_number)) 2
    (cond (nat_lt most_places (places_of bs)) 3
    (cond (nat_lt most_transitions (transitions_of bs)) 4
    (cond (not (length bs == bytes_for (bits_of bs))) 5
    (cond (not (light_rows bs)) 6
    (cond (not (fill_of bs == 0)) 7 0))))))
