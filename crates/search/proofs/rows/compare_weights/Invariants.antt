use Rattle.std.proofs.Common.{◌≡◌, ℕ, ◌<◌, length, slice_index}
use Rattle.arrangement.specs.Arrangements.{at}
use Rattle.search.proofs.rows.compare_weights.Given as goal

abbrev pub invariant-loop-p : goal.invariant-loop-p
invariant-loop-p l = (k : ℕ) → k < length l.yielded → slice_index l.x (at l.a k) ≡ slice_index l.y (at l.b k)
