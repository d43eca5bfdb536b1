use Rattle.std.proofs.Common.{◌≡◌, ℕ, ◌<◌, false}
use Rattle.fold.proofs.division.forming.lowest_alike.Given as goal

abbrev pub invariant-loop-q : goal.invariant-loop-q
invariant-loop-q g l = (j : ℕ) → j < l.q → g.L.Likeness.like l.by j (g.K.Node.number l.node) ≡ false
