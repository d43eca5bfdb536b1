-- The lexicographic order of lists of numbers, as a test. Assumes nothing.
use Rattle.std.specs.Prelude.{ℕ, Bool, true, false, not, ◌&&◌, ◌||◌, List, [], ◌∷◌, ◌==◌, nat_lt}

-- xs stands before ys: where they first differ xs is lower, or xs ends there
unfoldable pub lower : List ℕ → List ℕ → Bool
lower [] [] = false
lower [] (y ∷ ys) = true
lower (x ∷ xs) [] = false
lower (x ∷ xs) (y ∷ ys) = nat_lt x y || (x == y && lower xs ys)

-- xs stands before ys, or is ys
abbrev pub at_most : List ℕ → List ℕ → Bool
at_most xs ys = not (lower ys xs)
