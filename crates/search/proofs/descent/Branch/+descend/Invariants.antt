use Rattle.std.proofs.Common.{◌≡◌, ◌-◌, true}
use Rattle.finite.specs.Lexicographic.{at_most}
use Rattle.drawing.specs.Arrays.{model_of}
use Rattle.arrangement.specs.Arrangements.{at, rows_along}
use Rattle.search.specs.Along.{numbers_of}
use Rattle.search.proofs.Nodes.{Met}
use Rattle.search.proofs.descent.Branch.+descend.Given as goal

abbrev pub decreases-descend : goal.decreases-descend
decreases-descend l = l.self.now.cells.net.now.transitions - l.self.now.fixed

abbrev pub invariant-loop-k : goal.invariant-loop-k
invariant-loop-k l = record {
  here : l.found.net.now ≡ l.initial.found.net.now;
  better : at_most (rows_along (model_of l.self.cells.net.now) (at l.found.best.places)) (rows_along (model_of l.self.cells.net.now) (at l.initial.found.best.places)) ≡ true;
  met : Met (model_of l.self.cells.net.now) (at l.self.cells.labels) l.self.fixed l.k (at l.self.order) (numbers_of l.least) (rows_along (model_of l.self.cells.net.now) (at l.found.best.places));
}
