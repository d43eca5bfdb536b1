use Rattle.std.proofs.Common.{◌≡◌, ℕ, ◌+◌, ◌<◌, ◌≤◌, Ordering, sym, refl, ◌∙◌, subst, arith}
use Rattle.std.proofs.lemmas.Bool.{ltb-true}
use Rattle.finite.proofs.Lexicographic.{at_most_self}
use Rattle.net.specs.Model.{Model}
use Rattle.drawing.specs.Arrays.{model_of}
use Rattle.arrangement.specs.Arrangements.{at, row}
use Rattle.search.specs.declared.cells.Cells.{Cells}
use Rattle.search.specs.Along.{numbers_of}
use Rattle.search.specs.Rows.{Compares}
use Rattle.search.specs.Cells.{OrderedBy}
use Rattle.search.specs.Descent.{AtMostRows}
use Rattle.search.proofs.Comparing.{lower_is, at_most_is, compares_as, row_same_net}
use Rattle.search.proofs.LeastRows.{least_coarse}
use Rattle.search.proofs.Choosing.{at_most_label, at_most_more, at_most_next}
use Rattle.search.proofs.descent.Branch.choose.Goals as goal
use Rattle.search.proofs.descent.Branch.choose.Goals.{then-is_lt, else-is_lt}

pub loop-k-init : goal.loop-k-init
loop-k-init c =
    let s = c.args.self.now in
    let N : Model = model_of s.cells.net.now in
    let C = at s.cells.labels in
    let order = at s.order in
    let r : ℕ = s.fixed in
    let x = at c.least_row-cells.result.places in
    let l = c.least_row-cells.ensures.least in
    record {
      here = c.least_row-cells.ensures.here;
      late = omega arith;
      early = c.requires;
      orders = least_coarse N (order r) C _ x l x l.orders;
      low = at_most_more N C r r order _ x l x r (λ b ob z p q. absurd (omega arith)) (at_most_self (row N x (order r)));
    }

pub loop-k-preserved-then-above : goal.loop-k-preserved-then-above
loop-k-preserved-then-above c =
    let s = c.args.self.now in
    let inv = c.loop-k.invariant in
    record {
      here = inv.here;
      late = inv.late;
      early = inv.early;
      orders = inv.orders;
      low = at_most_label (model_of s.cells.net.now) _ s.fixed c.loop-k.k (at s.order) (at c.loop-k.cells.places) c.loop-k.index inv.low
          (subst (λ (u : ℕ). (model_of s.cells.net.now).transition_label u < (model_of s.cells.net.now).transition_label (at s.order c.loop-k.k)) c.row-least.ensures.named (ltb-true _ _ (sym c.above.ensures ∙ c.if-above.true)));
    }

pub loop-k-preserved : goal.loop-k-preserved
loop-k-preserved c =
    let s = c.args.self.now in
    let N : Model = model_of s.cells.net.now in
    let C = at s.cells.labels in
    let order = at s.order in
    let k : ℕ = c.loop-k.k in
    let r : ℕ = s.fixed in
    let j : ℕ = c.loop-k.index in
    let old = at c.loop-k.cells.places in
    let x = at c.divided_at-ordering.result.1.places in
    let l = c.divided_at-ordering.ensures.least in
    let inv = c.loop-k.invariant in
    let o : Ordering = c.divided_at-ordering.result.0 in
    let met : Compares o (row N x (order k)) (row N old (order j)) =
    compares_as o _ (numbers_of c.row-least.result) _ _ refl (row_same_net _ _ old (order j) inv.here c.row-least.ensures.numbers) c.divided_at-ordering.ensures.compared in
    let P : ℕ → Cells → Type 0 = λ i v. record {
      here : v.net.now ≡ s.cells.net.now;
      late : r ≤ i;
      early : i < N.transitions;
      orders : OrderedBy N.places C (at v.places);
      low : AtMostRows N C r (k + 1) order i (at v.places);
    } in
    elim c.if-is_lt.branch [
      | then-is_lt w ↦ subst (λ (i : ℕ). P i c.if-is_lt.cells) (sym w.index-is) (subst (λ (v : Cells). P k v) (sym w.cells-is) (record {
        here = c.divided_at-ordering.ensures.here;
        late = omega (arith, c.loop-k.auto.k);
        early = c.loop-k-test.true;
        orders = least_coarse N (order k) C _ x l x l.orders;
        low = at_most_next N C r k order _ x l old j inv.low (sym (lower_is o _ _ met) ∙ sym c.is_lt.ensures ∙ w.if-is_lt.true);
      }))
      | else-is_lt w ↦ subst (λ (i : ℕ). P i c.if-is_lt.cells) (sym w.index-is) (subst (λ (v : Cells). P j v) (sym w.cells-is) (record {
        here = inv.here;
        late = inv.late;
        early = inv.early;
        orders = inv.orders;
        low = at_most_more N C r k order _ x l old j inv.low (at_most_is o _ _ met (sym c.is_lt.ensures ∙ w.if-is_lt.false));
      }))
    ]
