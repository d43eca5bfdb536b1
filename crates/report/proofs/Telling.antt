-- The line of a side that is known.
use Rattle.std.proofs.Common.{◌≡◌, ℕ, ◌<◌, List, Ok, Err, Result, ap, arith}
use Rattle.std.proofs.lemmas.Bool.Decides.{nat_tests}
use Rattle.reader.proofs.Numbers.{sheet_numbered}
use Rattle.report.specs.declared.side.Counts.{Counts}
use Rattle.report.specs.declared.side.SideRefusal.{SideRefusal}
use Rattle.report.specs.declared.side.SideRefusal.TheVariants.{Frame, Sheet}
use Rattle.report.specs.Listing.{numbers_line, side_line}
use Rattle.report.specs.Sides.{number_of, line_of, Tells}

-- no refusal has the number 0
numbered : (r : SideRefusal) → 0 < number_of r
numbered Frame = omega arith
numbered (Sheet r) = sheet_numbered r

pub tells_line : (s : Result Counts SideRefusal) (n : ℕ) (bs : List ℕ) → Tells s n bs → line_of s ≡ side_line n bs
tells_line (Ok k) n bs t = rw t.0 (ap numbers_line t.1)
tells_line (Err r) n bs t = rw (← t) (grind (arith, nat_tests, numbered r))
