use Rattle.std.proofs.Common.{◌≡◌, ℕ, ◌+◌, ◌<◌, true, List, sym, refl, ap, ◌∙◌, subst, inl, inr, arith}
use Rattle.std.proofs.lemmas.Bool.{cases_eq, ltb-true}
use Rattle.finite.specs.Lexicographic.{lower, at_most}
use Rattle.finite.proofs.Lexicographic.{at_most_anti, at_most_trans, at_most_self}
use Rattle.net.specs.Model.{Model}
use Rattle.drawing.specs.declared.arrays.Arrays.{Arrays}
use Rattle.drawing.specs.Arrays.{model_of}
use Rattle.arrangement.specs.Arrangements.{at, row, standing, rows_along}
use Rattle.arrangement.proofs.Positions.{row_parts}
use Rattle.search.specs.declared.found.Found.{Found}
use Rattle.search.specs.declared.cells.Cells.{Cells}
use Rattle.search.specs.Along.{numbers_of}
use Rattle.search.specs.Cells.{OrderedBy}
use Rattle.search.specs.Descent.{Candidate}
use Rattle.search.proofs.Comparing.{same_is, apart_is, row_same_net}
use Rattle.search.proofs.Standing.{sorted_standing, rows_same}
use Rattle.search.proofs.LeastRows.{least_low, least_coarse, least_back}
use Rattle.search.proofs.Nodes.{Met, only_one, all_fixed, covered, cut}
use Rattle.search.proofs.descent.Branch.+descend.Goals as goal
use Rattle.search.proofs.descent.Branch.+descend.Goals.{then-self-transitions-via-then-self-transitions, then-self-transitions-via-else-self-transitions+then-all_apart, then-is_eq, else-is_eq}

pub returns-then-self-transitions-clause-least : goal.returns-then-self-transitions-clause-least
returns-then-self-transitions-clause-least t c b ob =
    let s = c.args.self.now in
    let N : Model = model_of s.cells.net.now in
    let C = at s.cells.labels in
    let a = at s.cells.places in
    let best = at c.settle.new.self.best.places in
    let same : rows_along N a ≡ rows_along N b = elim c.then-self-transitions.branch [
      | then-self-transitions-via-then-self-transitions w ↦ all_fixed N C s.fixed (at s.order) _ w.if-self-transitions.true s.rows a b s.cells.orders ob
      | then-self-transitions-via-else-self-transitions+then-all_apart w ↦ rows_same N a b (only_one N.places C a b s.cells.orders ob (w.all_apart.ensures w.if-all_apart.true))
    ] in
    subst (λ (z : List ℕ). at_most (rows_along N best) z ≡ true) same
    (subst (λ (n : Arrays). at_most (rows_along (model_of n) best) (rows_along (model_of n) a) ≡ true) c.requires c.settle.ensures.met)

pub returns-then-beaten-clause-better : goal.returns-then-beaten-clause-better
returns-then-beaten-clause-better t c = at_most_self (rows_along (model_of c.args.self.now.cells.net.now) (at c.args.found.now.best.places))

pub returns-then-beaten-clause-least : goal.returns-then-beaten-clause-least
returns-then-beaten-clause-least t c =
    let s = c.args.self.now in
    let N : Model = model_of s.cells.net.now in
    let order = at s.order in
    let a = at s.cells.places in
    let best = at c.args.found.now.best.places in
    let good : Candidate N c.args.found.now.best = subst (λ (n : Arrays). Candidate (model_of n) c.args.found.now.best) c.requires c.args.found.now.good in
    let ch = c.choose-choice.ensures.chosen in
    let y = at c.choose-choice.result.cells.places in
    let index : ℕ = c.choose-choice.result.index in
    let least : numbers_of c.row-least.result ≡ row N y (order index) = row_same_net _ _ y (order index) c.choose-choice.ensures.here c.row-least.ensures.numbers in
    let st : (j : ℕ) → j < N.transitions → standing N best j ≡ at c.args.found.now.best.transitions j = sorted_standing N best _ s.distinct good.arranges good.sorted in
    cut N s.distinct (at s.cells.labels) s.fixed order (λ j. row N a (order j)) (row N y (order index)) c.if-self-transitions.false s.all s.arranged s.rows ch.low best
    (λ k l. ap (row N best) (st k (omega (arith, c.if-self-transitions.false))) ∙ c.beaten.ensures.same c.if-beaten.true k l)
    (ap (λ (j : ℕ). lower (row N best j) (row N y (order index))) (st s.fixed c.if-self-transitions.false) ∙ subst (λ (z : List ℕ). lower (row N best (at c.args.found.now.best.transitions s.fixed)) z ≡ true) least (c.beaten.ensures.above c.if-beaten.true))

pub loop-k-init : goal.loop-k-init
loop-k-init t c = record {
  here = refl;
  better = at_most_self (rows_along (model_of c.args.self.now.cells.net.now) (at c.args.found.now.best.places));
  met = λ b ob x l m e. absurd (omega arith);
}

pub loop-k-preserved-then-above : goal.loop-k-preserved-then-above
loop-k-preserved-then-above t c =
    let s = c.args.self.now in
    let N : Model = model_of s.cells.net.now in
    let order = at s.order in
    let k : ℕ = c.loop-k.k in
    let y = at c.choose-choice.result.cells.places in
    let index : ℕ = c.choose-choice.result.index in
    let inv = c.loop-k.invariant in
    let least : numbers_of c.row-least.result ≡ row N y (order index) = row_same_net _ _ y (order index) c.choose-choice.ensures.here c.row-least.ensures.numbers in
    record {
      here = inv.here;
      better = inv.better;
      met = λ b ob z p q e. elim (cases_eq z k) [
        | inl v ↦
            let l : N.transition_label (order k) ≡ N.transition_label (order index) = (row_parts N N b y (order k) (order index) refl (ap (λ (u : ℕ). row N b (order u)) (sym v) ∙ e ∙ least)).0 in
            let n : c.row-least.result.transition ≡ order index = c.row-least.ensures.named in
            absurd (omega (arith, ltb-true _ _ (sym c.above.ensures ∙ c.if-above.true), ap N.transition_label n))
        | inr v ↦ inv.met b ob z p (omega arith) e
      ];
    }

pub loop-k-preserved : goal.loop-k-preserved
loop-k-preserved t c =
    let s = c.args.self.now in
    let N : Model = model_of s.cells.net.now in
    let C = at s.cells.labels in
    let order = at s.order in
    let k : ℕ = c.loop-k.k in
    let r : ℕ = s.fixed in
    let y = at c.choose-choice.result.cells.places in
    let index : ℕ = c.choose-choice.result.index in
    let next : Cells = c.divided_at-ordering.result.1 in
    let x = at next.places in
    let ch = c.choose-choice.ensures.chosen in
    let l = c.divided_at-ordering.ensures.least in
    let here = c.divided_at-ordering.ensures.here in
    let inv = c.loop-k.invariant in
    let least : numbers_of c.row-least.result ≡ row N y (order index) = row_same_net _ _ y (order index) c.choose-choice.ensures.here c.row-least.ensures.numbers in
    let before = at c.loop-k.found.best.places in
    let P : Found → Type 0 = λ f. record {
      here : f.net.now ≡ c.args.found.now.net.now;
      better : at_most (rows_along N (at f.best.places)) (rows_along N (at c.args.found.now.best.places)) ≡ true;
      met : Met N C r (k + 1) order (numbers_of c.row-least.result) (rows_along N (at f.best.places));
    } in
    elim c.if-is_eq.branch [
      | then-is_eq w ↦
          let after = at w.descend.new.found.best.places in
          let d = w.descend.ensures in
          let Q : Cells → Arrays → Type 0 = λ v n. (at_most (rows_along (model_of n) after) (rows_along (model_of n) before) ≡ true)
          × ((b : ℕ → ℕ) → OrderedBy n.places (at v.labels) b → at_most (rows_along (model_of n) after) (rows_along (model_of n) b) ≡ true) in
          let all : Q w.below.result.cells w.below.result.cells.net.now = (d.better, d.least) in
          let q : Q next s.cells.net.now = subst (λ (n : Arrays). Q next n) here (subst (λ (v : Cells). Q v v.net.now) w.below.ensures.cells all) in
          let same : row N x (order k) ≡ numbers_of c.row-least.result = same_is c.divided_at-ordering.result.0 _ _ c.divided_at-ordering.ensures.compared (sym c.is_eq.ensures ∙ w.if-is_eq.true) in
          subst P (sym w.found-is) (record {
            here = d.here ∙ inv.here;
            better = at_most_trans (rows_along N after) (rows_along N before) _ q.0 inv.better;
            met = λ o oo z p m e. elim (cases_eq z k) [
              | inl v ↦ q.1 o (least_back N (order k) C (at next.labels) x l o oo (same ∙ sym e ∙ ap (λ (u : ℕ). row N o (order u)) v))
              | inr v ↦ at_most_trans (rows_along N after) (rows_along N before) (rows_along N o) q.0 (inv.met o oo z p (omega arith) e)
            ];
          })
      | else-is_eq w ↦
          subst P (sym w.found-is) (record {
            here = inv.here;
            better = inv.better;
            met = λ o oo z p m e. elim (cases_eq z k) [
              | inl v ↦
                  let equal : row N o (order k) ≡ row N y (order index) = ap (λ (u : ℕ). row N o (order u)) (sym v) ∙ e ∙ least in
                  let low : at_most (row N x (order k)) (row N y (order index)) ≡ true = subst (λ (u : List ℕ). at_most (row N x (order k)) u ≡ true) equal (least_low N (order k) C (at next.labels) x l o oo) in
                  let high : at_most (row N y (order index)) (row N x (order k)) ≡ true = ch.low x (least_coarse N (order k) C (at next.labels) x l x l.orders) k c.loop-k.auto.k c.loop-k-test.true in
                  absurd (apart_is c.divided_at-ordering.result.0 _ _ c.divided_at-ordering.ensures.compared (sym c.is_eq.ensures ∙ w.if-is_eq.false) (at_most_anti _ _ low high ∙ sym least))
              | inr v ↦ inv.met o oo z p (omega arith) e
            ];
          })
    ]

pub below-requires-clause-chosen : goal.below-requires-clause-chosen
below-requires-clause-chosen t c =
    let s = c.args.self.now in
    let N : Model = model_of s.cells.net.now in
    let C = at s.cells.labels in
    let order = at s.order in
    let k : ℕ = c.loop-k.k in
    let y = at c.choose-choice.result.cells.places in
    let index : ℕ = c.choose-choice.result.index in
    let next : Cells = c.divided_at-ordering.result.1 in
    let x = at next.places in
    let ch = c.choose-choice.ensures.chosen in
    let l = c.divided_at-ordering.ensures.least in
    let least : numbers_of c.row-least.result ≡ row N y (order index) = row_same_net _ _ y (order index) c.choose-choice.ensures.here c.row-least.ensures.numbers in
    let same : row N x (order k) ≡ row N y (order index) = same_is c.divided_at-ordering.result.0 _ _ c.divided_at-ordering.ensures.compared (sym c.is_eq.ensures ∙ c.if-is_eq.true) ∙ least in
    record {
      late = c.loop-k.auto.k;
      early = c.loop-k-test.true;
      orders = least_coarse N (order k) C (at next.labels) x l x l.orders;
      low = λ b ob j p q. subst (λ (z : List ℕ). at_most z (row N b (order j)) ≡ true) (sym same) (ch.low b ob j p q);
    }

pub returns-clause-least : goal.returns-clause-least
returns-clause-least t c =
    let s = c.args.self.now in
    let N : Model = model_of s.cells.net.now in
    let order = at s.order in
    let a = at s.cells.places in
    let ch = c.choose-choice.ensures.chosen in
    let y = at c.choose-choice.result.cells.places in
    let index : ℕ = c.choose-choice.result.index in
    let least : numbers_of c.row-least.result ≡ row N y (order index) = row_same_net _ _ y (order index) c.choose-choice.ensures.here c.row-least.ensures.numbers in
    covered N s.distinct (at s.cells.labels) s.fixed order (λ j. row N a (order j)) (row N y (order index)) c.if-self-transitions.false s.all s.arranged s.rows ch.low
    (rows_along N (at c.loop-k.found.best.places)) y index ch.orders ch.late ch.early refl (λ b ob x l m e. c.loop-k.invariant.met b ob x l (omega (arith, c.loop-k-test.false)) (e ∙ sym least))
