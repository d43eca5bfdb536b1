use Rattle.std.proofs.Common.{set, rules, arith}
use Rattle.drawing.specs.Arrays.{row_or_blank, row_with}
use Rattle.drawing.proofs.Reweighing.{Written, too_large, allowed, reweighed_net, reweighed_held}
use Rattle.drawing.proofs.Drawing.set_weight.Goals as goal

pub returns-then-bag_size-gt-LARGEST_BAG-clause-refusal : goal.returns-then-bag_size-gt-LARGEST_BAG-clause-refusal
returns-then-bag_size-gt-LARGEST_BAG-clause-refusal c =
    let row = row_with c.args.bag (row_or_blank c.args.self.now.arrays.rows c.args.transition.0) c.args.place.0 c.args.weight in
    let h : Written c.args.bag c.args.self.now c.args.transition.0 c.args.place.0 c.args.weight row (set c.weights-weights.result c.from.result c.args.weight) = search rules in
    too_large _ _ _ _ _ _ _ h (omega arith)

pub invariant_of-self : goal.invariant_of-self
invariant_of-self c =
    let h : Written c.args.bag c.args.self.now c.args.transition.0 c.args.place.0 c.args.weight c.set_weight.new.self (set c.weights-weights.result c.from.result c.args.weight) = search rules in
    rw c.from-3.ensures ((c.args.self.now.arrays.few, tt), (reweighed_held _ _ _ _ _ _ _ h (omega arith), tt))

pub returns : goal.returns
returns c =
    let h : Written c.args.bag c.args.self.now c.args.transition.0 c.args.place.0 c.args.weight c.set_weight.new.self (set c.weights-weights.result c.from.result c.args.weight) = search rules in
    record { refusal = allowed _ _ _ _ _ _ _ h (omega arith); after = rw c.from-3.ensures (reweighed_net _ _ _ _ _ _ _ h) }
