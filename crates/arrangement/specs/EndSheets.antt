-- The end sheet of a net: its normal form in bytes. Assumes nothing.
use Rattle.std.specs.Prelude.{◌≡◌, ℕ, false, cond, List, [], ◌∷◌, map}
use Rattle.finite.specs.Lexicographic.{lower}
use Rattle.net.specs.Model.{Model}
use Rattle.bisimulation.specs.Folding.{folded}
use Rattle.bisimulation.specs.Bisimulation.{Alike}
use Rattle.format.specs.Sheets.{sheet_of, net_of, LawfulSheet}
use Rattle.arrangement.specs.Arrangements.{at, Arrangement, arranged}
use Rattle.arrangement.specs.Enumeration.{all_arrangements, arrangement_count}

-- the sheet of an arrangement
abbrev pub sheet_along : Model → (ℕ → ℕ) → List ℕ
sheet_along m a = sheet_of (arranged m a)

-- the least of some lists
unfoldable pub least_of : List (List ℕ) → List ℕ
least_of [] = []
least_of (x ∷ []) = x
least_of (x ∷ (y ∷ ys)) = cond (lower x (least_of (y ∷ ys))) x (least_of (y ∷ ys))

-- the least sheet of an arrangement of the net
unfoldable pub least_sheet : Model → List ℕ
least_sheet m = least_of (map (λ a. sheet_along m (at a)) (all_arrangements m))

-- the end sheet of a net: the least sheet of an arrangement of its folded net
abbrev pub end_sheet : Model → List ℕ
end_sheet m = least_sheet (folded m)

-- the number of arrangements of the folded net
abbrev pub arrangements : Model → ℕ
arrangements m = arrangement_count (folded m)

-- e is reached by an arrangement of the net, and no arrangement has a lower sheet, byte by byte from the first
pub record Least (m : Model) (e : List ℕ) : Type 0 where
  pub arrangement : ℕ → ℕ
  pub arranges : Arrangement m arrangement
  pub reached : sheet_along m arrangement ≡ e
  pub least : (b : ℕ → ℕ) → Arrangement m b → lower (sheet_along m b) e ≡ false

-- What an end sheet is: the least sheet of an arrangement of the folded net; a lawful sheet, of a net that is alike to the one
-- reduced; and the end sheet of that net is itself.
pub record NormalForm (m : Model) (e : List ℕ) : Type 0 where
  pub least : Least (folded m) e
  pub lawful : LawfulSheet e
  pub alike : Alike m (net_of e)
  pub itself : end_sheet (net_of e) ≡ e
