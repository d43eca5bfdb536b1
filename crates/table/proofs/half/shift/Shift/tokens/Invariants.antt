use Rattle.std.proofs.Common.{◌≡◌, ℕ, ◌<◌, length}
use Rattle.arrangement.specs.Arrangements.{at}
use Rattle.table.specs.Views.{net_of, held, count_after}
use Rattle.table.proofs.half.shift.Shift.tokens.Given as goal

abbrev pub invariant-loop-x : goal.invariant-loop-x
invariant-loop-x l =
    (length l.new ≡ 64) × ((y : ℕ) → y < l.x → at l.new y ≡ count_after (net_of l.self.half.now) (held l.self.half.now) l.self.off l.self.step.sort l.self.step.number y)
