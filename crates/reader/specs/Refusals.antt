-- The numbers of the refusals of a sheet; 0 is for none. Assumes nothing.
use Rattle.std.specs.Prelude.{ℕ, Ok, Err, Result}
use Rattle.reader.specs.declared.refusal.SheetRefusal.{SheetRefusal}
use Rattle.reader.specs.declared.refusal.SheetRefusal.TheVariants.{Short, Form, Places, Transitions, Length, BagTooLarge, Fill}

abbrev pub number_of : SheetRefusal → ℕ
number_of Short = 1
number_of Form = 2
number_of Places = 3
number_of Transitions = 4
number_of Length = 5
number_of BagTooLarge = 6
number_of Fill = 7

abbrev pub refusal_of : {X : Type 0} → Result X SheetRefusal → ℕ
refusal_of (Ok _) = 0
refusal_of (Err e) = number_of e
