use Rattle.std.proofs.Common.{◌≡◌, ◌<◌, ◌≤◌}
use Rattle.drawing.specs.Arrays.{model_of}
use Rattle.arrangement.specs.Arrangements.{at}
use Rattle.search.specs.Cells.{OrderedBy}
use Rattle.search.specs.Descent.{AtMostRows}
use Rattle.search.proofs.descent.Branch.choose.Given as goal

abbrev pub invariant-loop-k : goal.invariant-loop-k
invariant-loop-k l = record {
  here : l.cells.net.now ≡ l.self.cells.net.now;
  late : l.self.fixed ≤ l.index;
  early : l.index < l.self.cells.net.now.transitions;
  orders : OrderedBy l.self.cells.net.now.places (at l.self.cells.labels) (at l.cells.places);
  low : AtMostRows (model_of l.self.cells.net.now) (at l.self.cells.labels) l.self.fixed l.k (at l.self.order) l.index (at l.cells.places);
}
