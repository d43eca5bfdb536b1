-- What is together in a list of leaders. Assumes nothing.
use Rattle.std.specs.Prelude.{◌≡◌, ℕ, ◌<◌, Bool, List, ◌==◌, slice_index}
use Rattle.bisimulation.specs.Leaders.{lowest}

-- together are those with the same leader
abbrev pub together : List ℕ → ℕ → ℕ → Bool
together leaders p q = (slice_index leaders p == slice_index leaders q)

-- each number below n has the lowest member of its group as its leader
abbrev pub LowestLead : ℕ → List ℕ → Type 0
LowestLead n leaders = (p : ℕ) → p < n → slice_index leaders p ≡ lowest (together leaders) n p
