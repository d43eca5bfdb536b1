-- When an edit of a drawing is refused, and under which number; 0 is for none. Assumes nothing.
use Rattle.std.specs.Prelude.{ℕ, cond, not, ◌&&◌, Ok, Err, Result, nat_le, nat_lt}
use Rattle.finite.specs.Below.{sum_below}
use Rattle.net.specs.Model.{Model, most_places, most_transitions, highest_label, largest_bag}
use Rattle.net.specs.Bags.{weights}
use Rattle.drawing.specs.Edits.{with_weight}
use Rattle.net.specs.declared.bag.Bag.{Bag}
use Rattle.drawing.specs.declared.refusal.DrawingRefusal.{DrawingRefusal}
use Rattle.drawing.specs.declared.refusal.DrawingRefusal.TheVariants.{Full, LabelTooHigh, NoSuchNumber, BagTooLarge}

abbrev pub number_of : DrawingRefusal → ℕ
number_of Full = 11
number_of LabelTooHigh = 12
number_of NoSuchNumber = 13
number_of BagTooLarge = 14

abbrev pub refusal_of : {X : Type 0} → Result X DrawingRefusal → ℕ
refusal_of (Ok _) = 0
refusal_of (Err e) = number_of e

-- The first condition that refuses a label beside `used` of at most `most` others.
abbrev pub add_refusal : ℕ → ℕ → ℕ → ℕ
add_refusal used most label = cond (nat_le most used) 11 (cond (nat_lt highest_label label) 12 0)

abbrev pub place_refusal : Model → ℕ → ℕ
place_refusal m label = add_refusal m.places most_places label

abbrev pub transition_refusal : Model → ℕ → ℕ
transition_refusal m label = add_refusal m.transitions most_transitions label

-- the size of a bag of transition t
abbrev pub size_of : Bag → Model → ℕ → ℕ
size_of bag m t = sum_below m.places (weights bag m t)

-- The first condition that refuses the weight w.
abbrev pub weight_refusal : Bag → Model → ℕ → ℕ → ℕ → ℕ
weight_refusal bag m t p w =
    cond (not (nat_lt t m.transitions && nat_lt p m.places)) 13
    (cond (nat_lt largest_bag (size_of bag (with_weight bag m t p w) t)) 14 0)
