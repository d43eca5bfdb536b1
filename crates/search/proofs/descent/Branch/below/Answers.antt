use Rattle.std.proofs.Common.{ℕ, ◌+◌, ◌<◌, sym, subst, arith}
use Rattle.finite.specs.Injections.{Injects}
use Rattle.net.specs.Model.{Model}
use Rattle.drawing.specs.declared.arrays.Arrays.{Arrays}
use Rattle.drawing.specs.Arrays.{model_of}
use Rattle.arrangement.specs.Arrangements.{at, Arrangement, Distinct, row}
use Rattle.search.specs.Cells.{OrderedBy}
use Rattle.search.specs.Descent.{Fixed}
use Rattle.search.proofs.Sorting.{swapped, injects_swapped}
use Rattle.search.proofs.LeastRows.{least_coarse}
use Rattle.search.proofs.Nodes.{fixed_more}
use Rattle.search.proofs.descent.Branch.below.Goals as goal

pub invariant_of-result : goal.invariant_of-result
invariant_of-result c =
    let s = c.args.self.now in
    let N : Model = model_of s.cells.net.now in
    let C = at s.cells.labels in
    let E = at c.args.cells.labels in
    let x = at c.args.cells.places in
    let order = at s.order in
    let next = at c.swap.new.self in
    let chosen = c.requires.chosen in
    let r : ℕ = s.fixed in
    let few : r < N.transitions = omega (arith, chosen.late, chosen.early) in
    let back = sym c.requires.here in
    let exchange = swapped s.order c.swap.new.self r c.args.k c.swap.ensures.by_index in
    record {
      distinct = subst (λ (n : Arrays). Distinct (model_of n)) back s.distinct;
      arranged = subst (λ (n : Arrays). (b : ℕ → ℕ) → OrderedBy n.places E b → Arrangement (model_of n) b) back (λ b ob. s.arranged b (least_coarse N (order c.args.k) C E x c.requires.least b ob));
      all = subst (λ (n : Arrays). Injects next n.transitions n.transitions) back (injects_swapped order next r c.args.k _ _ exchange few chosen.early s.all);
      rows = subst (λ (n : Arrays). Fixed (model_of n) E (r + 1) next (λ j. row (model_of n) x (next j))) back
          (fixed_more N s.distinct C E r order next (at s.cells.places) x c.args.k s.all s.arranged s.rows chosen c.requires.least exchange);
    }
