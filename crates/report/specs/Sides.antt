-- What is known of one side, and the line that is written of it. Assumes nothing.
use Rattle.std.specs.Prelude.{◌≡◌, ℕ, List, [], ◌∷◌, Ok, Err, Result}
use Rattle.format.specs.Sheets.{net_of}
use Rattle.reader.specs.Refusals as sheet
use Rattle.report.specs.declared.side.Counts.{Counts}
use Rattle.report.specs.declared.side.SideRefusal.{SideRefusal}
use Rattle.report.specs.declared.side.SideRefusal.TheVariants.{Frame, Sheet}
use Rattle.report.specs.Listing.{numbers_line, net_numbers, refused_line}

-- the number of each refusal
abbrev pub number_of : SideRefusal → ℕ
number_of Frame = 51
number_of (Sheet refusal) = sheet.number_of refusal

-- the numbers of a line
abbrev pub numbers_of : Counts → List ℕ
numbers_of c = c.places ∷ c.transitions ∷ c.folded_places ∷ c.folded_transitions ∷ c.rounds ∷ []

-- the line of a side
abbrev pub line_of : Result Counts SideRefusal → List ℕ
line_of (Ok counts) = numbers_line (numbers_of counts)
line_of (Err refusal) = refused_line (number_of refusal)

-- The side is refused by the number n; where n is 0, it has the numbers of the sheet's net.
abbrev pub Tells : Result Counts SideRefusal → ℕ → List ℕ → Type 0
Tells (Ok counts) n bs = (n ≡ 0) × (numbers_of counts ≡ net_numbers (net_of bs))
Tells (Err refusal) n bs = number_of refusal ≡ n
