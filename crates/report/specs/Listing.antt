-- What is listed of an input, as bytes. Assumes nothing.
use Rattle.std.specs.Prelude.{◌≡◌, ℕ, ◌≤◌, cond, List, [], ◌∷◌, ◌++◌, length, codes, decimal, ◌==◌}
use Rattle.net.specs.Model.{Model}
use Rattle.bisimulation.specs.Rounds.{rest}
use Rattle.bisimulation.specs.Folding.{folded}
use Rattle.format.specs.Sheets.{net_of}
use Rattle.report.specs.Frames.{sheet_in, after_frame, left_refusal, right_refusal}

-- the line of some numbers: in decimal, with a blank between two
abbrev pub numbers_line : List ℕ → List ℕ
numbers_line [] = []
numbers_line (n ∷ []) = decimal n ++ codes "\n"
numbers_line (n ∷ k ∷ ns) = (decimal n ++ codes " ") ++ numbers_line (k ∷ ns)

-- what is listed of a net: its numbers of places and of transitions, those of the folded net, and how many rounds parted something
abbrev pub net_numbers : Model → List ℕ
net_numbers m = m.places ∷ m.transitions ∷ (folded m).places ∷ (folded m).transitions ∷ rest m ∷ []

abbrev pub net_line : Model → List ℕ
net_line m = numbers_line (net_numbers m)

-- the line of a side that is refused
abbrev pub refused_line : ℕ → List ℕ
refused_line n = codes "refused " ++ (decimal n ++ codes "\n")

-- the line of a side: of the net of its sheet, or of the number that refuses it
abbrev pub side_line : ℕ → List ℕ → List ℕ
side_line refusal sheet = cond (refusal == 0) (net_line (net_of sheet)) (refused_line refusal)

-- the left line, then the right
unfoldable pub listing_of : List ℕ → List ℕ
listing_of bs = side_line (left_refusal bs) (sheet_in bs) ++ side_line (right_refusal bs) (sheet_in (after_frame bs))

-- Where there are n bytes, later ones do not count.
abbrev pub Suffices : ℕ → List ℕ → Type 0
Suffices n bs = (more : List ℕ) → n ≤ length bs → listing_of (bs ++ more) ≡ listing_of bs
