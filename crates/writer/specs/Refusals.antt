-- When writing is refused, and its number; 0 is for none. Assumes nothing.
use Rattle.std.specs.Prelude.{ℕ, cond, List, length, Ok, Err, Result, nat_lt}
use Rattle.format.specs.Sheets.{longest_sheet}
use Rattle.writer.specs.declared.refusal.WriteRefusal.{WriteRefusal}
use Rattle.writer.specs.declared.refusal.WriteRefusal.TheVariants.{ShortBuffer}

abbrev pub number_of : WriteRefusal → ℕ
number_of ShortBuffer = 31

abbrev pub refusal_of : {X : Type 0} → Result X WriteRefusal → ℕ
refusal_of (Ok _) = 0
refusal_of (Err e) = number_of e

-- a buffer that is shorter than the longest sheet is refused
abbrev pub buffer_refusal : List ℕ → ℕ
buffer_refusal buf = cond (nat_lt (length buf) longest_sheet) 31 0
