-- The limit of arrangements, and in how many ways a place can be put among the places before it. Assumes nothing.
use Rattle.std.specs.Prelude.{ℕ, suc, List, nat_eq}
use Rattle.finite.specs.Below.{count_below}
use Rattle.arrangement.specs.Arrangements.{at}

-- the most arrangements of a net that is reduced
abbrev pub most_arrangements : ℕ
most_arrangements = 40320

-- before the first or after one of the earlier places with its label
abbrev pub choices : List ℕ → ℕ → ℕ
choices labels p = suc (count_below p (λ q. nat_eq (at labels q) (at labels p)))
