-- One step of the search: which rows are fixed, and which comes next. Assumes nothing.
use Rattle.std.specs.Prelude.{◌≡◌, ℕ, ◌<◌, ◌≤◌, true, List, length}
use Rattle.finite.specs.Lexicographic.{at_most}
use Rattle.net.specs.Model.{Model, most_places, most_transitions}
use Rattle.arrangement.specs.Arrangements.{at, Arrangement, row, standing}
use Rattle.search.specs.declared.ranking.Ranking.{Ranking}
use Rattle.search.specs.Rows.{Sorted}
use Rattle.search.specs.Cells.{OrderedBy}

-- what may be the best so far: an arrangement, and the transitions sorted by their rows along it
pub record Candidate (m : Model) (r : Ranking) : Type 0 where
  pub arranges : Arrangement m (at r.places)
  pub sorted : Sorted m (at r.places) (at r.transitions)
  pub places_long : length r.places ≡ most_places
  pub transitions_long : length r.transitions ≡ most_transitions

-- each order by the labels c has the transitions ts at its first r positions, with the same rows
abbrev pub Fixed : Model → (ℕ → ℕ) → ℕ → (ℕ → ℕ) → (ℕ → List ℕ) → Type 0
Fixed m c r ts rows = (b : ℕ → ℕ) → OrderedBy m.places c b → (k : ℕ) → k < r → (standing m b k ≡ ts k) × (row m b (ts k) ≡ rows k)

-- the row of ts j along x is at most the rows of ts r, .., ts (n - 1) along any order by the labels c
abbrev pub AtMostRows : Model → (ℕ → ℕ) → ℕ → ℕ → (ℕ → ℕ) → ℕ → (ℕ → ℕ) → Type 0
AtMostRows m c r n ts j x = (b : ℕ → ℕ) → OrderedBy m.places c b → (k : ℕ) → r ≤ k → k < n → at_most (row m x (ts j)) (row m b (ts k)) ≡ true

-- x is an order by the labels c, and the row of ts index along it is the least of those of ts r, ts (r + 1), .. along any of them
pub record Chosen (m : Model) (c : ℕ → ℕ) (r : ℕ) (ts : ℕ → ℕ) (index : ℕ) (x : ℕ → ℕ) : Type 0 where
  pub late : r ≤ index
  pub early : index < m.transitions
  pub orders : OrderedBy m.places c x
  pub low : AtMostRows m c r m.transitions ts index x
