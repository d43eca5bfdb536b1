use Rattle.std.proofs.Common.{◌≡◌, ◌≤◌}
use Rattle.finite.specs.Products.{product_below}
use Rattle.normal.specs.Counts.{choices}
use Rattle.normal.proofs.count.count_arrangements.Given as goal

abbrev pub invariant-loop-p : goal.invariant-loop-p
invariant-loop-p l = (l.ways ≤ 40320) × (l.ways ≡ product_below l.p (choices l.net.place_labels))
