use Rattle.std.proofs.Common.{◌≡◌, ℕ, ◌<◌}
use Rattle.drawing.specs.Arrays.{model_of}
use Rattle.arrangement.specs.Arrangements.{at, row}
use Rattle.search.proofs.ranking.Ranking.compare.Given as goal

abbrev pub invariant-loop-position : goal.invariant-loop-position
invariant-loop-position l = (k : ℕ) → k < l.position → row (model_of l.net) (at l.self.places) (at l.self.transitions k) ≡ row (model_of l.net) (at l.other.places) (at l.other.transitions k)
