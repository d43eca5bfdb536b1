-- The numbers of the refusals of a reduction. Assumes nothing.
use Rattle.std.specs.Prelude.{ℕ}
use Rattle.normal.specs.declared.refusal.ReduceRefusal.{ReduceRefusal}
use Rattle.normal.specs.declared.refusal.ReduceRefusal.TheVariants.{ShortBuffer, TooManyArrangements}

abbrev pub number_of : ReduceRefusal → ℕ
number_of ShortBuffer = 31
number_of TooManyArrangements = 32
