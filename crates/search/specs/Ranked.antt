-- The least arrangement of a net, with its transitions by their positions. Assumes nothing.
use Rattle.std.specs.Prelude.{◌≡◌, ℕ, ◌<◌, true, length}
use Rattle.finite.specs.Lexicographic.{at_most}
use Rattle.net.specs.Model.{Model, most_places, most_transitions}
use Rattle.arrangement.specs.Arrangements.{at, Arrangement, standing, rows_along}
use Rattle.search.specs.declared.ranking.Ranking.{Ranking}

-- The places are arranged, each transition stands at its position, and the rows of no arrangement are lower.
pub record Ranked (m : Model) (r : Ranking) : Type 0 where
  pub arranges : Arrangement m (at r.places)
  pub stands : (j : ℕ) → j < m.transitions → at r.transitions j ≡ standing m (at r.places) j
  pub least : (b : ℕ → ℕ) → Arrangement m b → at_most (rows_along m (at r.places)) (rows_along m b) ≡ true
  pub places_long : length r.places ≡ most_places
  pub transitions_long : length r.transitions ≡ most_transitions
