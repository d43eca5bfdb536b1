-- What opening a table says, what the table then is, and the law of opened tables. Assumes nothing.
use Rattle.std.specs.Prelude.{◌≡◌, ℕ, ◌≤◌, cond, ◌⊎◌, ◌↔◌, List, length, Ok, Err, Result, nat_lt}
use Rattle.std.specs.Str.{bytes_eq}
use Rattle.net.specs.Model.{Model}
use Rattle.bisimulation.specs.Bisimulation.{Alike}
use Rattle.format.specs.Sheets.{longest_sheet}
use Rattle.arrangement.specs.EndSheets.{end_sheet, arrangements}
use Rattle.arrangement.specs.Seats.{Seating}
use Rattle.normal.specs.declared.refusal.ReduceRefusal.{ReduceRefusal}
use Rattle.normal.specs.declared.refusal.ReduceRefusal.TheVariants.{ShortBuffer, TooManyArrangements}
use Rattle.normal.specs.declared.reduction.Reduction.{Reduction}
use Rattle.normal.specs.Numbers.{number_of}
use Rattle.normal.specs.Counts.{most_arrangements}
use Rattle.normal.specs.Reductions.{reduction_of, reduce_says}
use Rattle.play.specs.declared.kinds.Side.{Side}
use Rattle.play.specs.declared.kinds.Side.TheVariants.{Left, Right}
use Rattle.play.specs.States.{Sides, State, opened, bare_board}
use Rattle.play.specs.Fairness.{StaysFair}
use Rattle.table.specs.declared.table.Table.{Table}
use Rattle.table.specs.Tables.{state_of}
use Rattle.table.specs.declared.refusal.SideRefusal.{SideRefusal}
use Rattle.table.specs.declared.refusal.OpenRefusal.{OpenRefusal}
use Rattle.table.specs.declared.refusal.OpenRefusal.TheVariants.{OnSide, Differ}

-- the number of each refusal
abbrev pub open_number : OpenRefusal → ℕ
open_number (OnSide e) = number_of e.refusal
open_number Differ = 41

-- a reduction whose refusal is that of its side
abbrev pub on_side : {X : Type 0} → Side → Result X ReduceRefusal → Result X SideRefusal
on_side w (Ok x) = Ok x
on_side w (Err e) = Err (record { side = w; refusal = e })

-- a short buffer alone
abbrev pub short_of : Result Reduction ReduceRefusal → Result (Unit {0}) ReduceRefusal
short_of (Ok _) = Ok tt
short_of (Err ShortBuffer) = Err ShortBuffer
short_of (Err TooManyArrangements) = Ok tt

-- a side's refusal, as that of opening
abbrev pub refused_on : Side → ReduceRefusal → OpenRefusal
refused_on w e = OnSide (record { side = w; refusal = e })

-- both reductions, or what refuses one: short buffers come before too many arrangements, and the left before the right
abbrev pub both_reduced : Result Reduction ReduceRefusal → Result Reduction ReduceRefusal → Result (Reduction × Reduction) OpenRefusal
both_reduced (Err ShortBuffer) right = Err (refused_on Left ShortBuffer)
both_reduced (Err TooManyArrangements) (Err ShortBuffer) = Err (refused_on Right ShortBuffer)
both_reduced (Err TooManyArrangements) (Err TooManyArrangements) = Err (refused_on Left TooManyArrangements)
both_reduced (Err TooManyArrangements) (Ok _) = Err (refused_on Left TooManyArrangements)
both_reduced (Ok _) (Err ShortBuffer) = Err (refused_on Right ShortBuffer)
both_reduced (Ok _) (Err TooManyArrangements) = Err (refused_on Right TooManyArrangements)
both_reduced (Ok l) (Ok r) = Ok (l, r)

-- What opening a table on two nets, with two buffers, says: the first condition that holds refuses it.
abbrev pub open_says : Model → Model → List ℕ → List ℕ → Result (Unit {0}) OpenRefusal
open_says l r left right =
    cond (nat_lt (length left) longest_sheet) (Err (refused_on Left ShortBuffer))
    (cond (nat_lt (length right) longest_sheet) (Err (refused_on Right ShortBuffer))
    (cond (nat_lt most_arrangements (arrangements l)) (Err (refused_on Left TooManyArrangements))
    (cond (nat_lt most_arrangements (arrangements r)) (Err (refused_on Right TooManyArrangements))
    (cond (bytes_eq (end_sheet l) (end_sheet r)) (Ok tt) (Err Differ)))))

-- The state of a table that is newly opened on the nets l and r: on each side stands its net, seated along an arrangement that
-- reaches its end sheet, with no tokens, and nothing is owed. Whatever calls follow, with nothing owed both sides show the same,
-- and an answer that is owed can be given.
pub record OpenedOn (l r : Model) (s : State) : Type 0 where
  pub sides : Sides
  pub left : sides.left.net ≡ l
  pub right : sides.right.net ≡ r
  pub left_seats : Seating sides.left
  pub right_seats : Seating sides.right
  pub bare : s ≡ opened sides (bare_board sides)
  pub fair : StaysFair s

-- after opening: the table is newly opened on the two nets, or, where that is refused, as it was
abbrev pub AfterOpen : Result (Unit {0}) OpenRefusal → Model → Model → Table → Table → Type 0
AfterOpen (Ok _) l r old new = OpenedOn l r (state_of new)
AfterOpen (Err _) l r old new = new ≡ old

-- The end sheets of two nets are the same bytes exactly when a structural bisimulation between the nets exists. Where one does and
-- neither buffer is short, both reductions are accepted, or both are refused for their arrangements.
pub record SheetsDecide (l r : Model) (left right : List ℕ) : Type 0 where
  pub same : (end_sheet l ≡ end_sheet r) ↔ Alike l r
  pub together : Alike l r → longest_sheet ≤ length left → longest_sheet ≤ length right →
      ((reduce_says l left ≡ Ok (reduction_of l)) × (reduce_says r right ≡ Ok (reduction_of r)))
      ⊎ ((reduce_says l left ≡ Err TooManyArrangements) × (reduce_says r right ≡ Err TooManyArrangements))
