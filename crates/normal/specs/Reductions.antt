-- What a reduction says, and what it leaves in the buffer. Assumes nothing.
use Rattle.std.specs.Prelude.{ℕ, cond, List, ◌++◌, length, drop, Ok, Err, Result, nat_lt}
use Rattle.net.specs.Model.{Model}
use Rattle.bisimulation.specs.Rounds.{rest}
use Rattle.format.specs.Sheets.{longest_sheet}
use Rattle.arrangement.specs.EndSheets.{end_sheet, arrangements}
use Rattle.normal.specs.Counts.{most_arrangements}
use Rattle.normal.specs.declared.refusal.ReduceRefusal.{ReduceRefusal}
use Rattle.normal.specs.declared.refusal.ReduceRefusal.TheVariants.{ShortBuffer, TooManyArrangements}
use Rattle.normal.specs.declared.reduction.Reduction.{Reduction}

-- what is reported of a reduced net: the length of its end sheet, its rounds and its number of arrangements
abbrev pub reduction_of : Model → Reduction
reduction_of m = record { length = length (end_sheet m); rounds = rest m; arrangements = arrangements m }

-- what reducing the net into the buffer says
abbrev pub reduce_says : Model → List ℕ → Result Reduction ReduceRefusal
reduce_says m buffer =
    cond (nat_lt (length buffer) longest_sheet) (Err ShortBuffer)
    (cond (nat_lt most_arrangements (arrangements m)) (Err TooManyArrangements) (Ok (reduction_of m)))

-- the buffer after it: the end sheet at the front where the reduction is accepted, and as before where it is refused
abbrev pub filled : Result Reduction ReduceRefusal → Model → List ℕ → List ℕ
filled (Ok _) m buffer = end_sheet m ++ drop (length (end_sheet m)) buffer
filled (Err _) m buffer = buffer

abbrev pub reduced_buffer : Model → List ℕ → List ℕ
reduced_buffer m buffer = filled (reduce_says m buffer) m buffer
