use Rattle.std.proofs.Common.{◌≡◌, ℕ, ◌<◌, List, take, Ordering, sym, subst, arith, rules}
use Rattle.std.proofs.lemmas.List.{length-take}
use Rattle.std.proofs.lemmas.List.FromFn.{length-map-range_with_len}
use Rattle.net.specs.Model.{Model}
use Rattle.drawing.specs.declared.arrays.Arrays.{Arrays}
use Rattle.drawing.specs.Arrays.{model_of, row_or_blank}
use Rattle.arrangement.specs.Arrangements.{at, row}
use Rattle.search.specs.Rows.{Compares, weights_along}
use Rattle.search.proofs.Comparing.{after_label, along_both, causes_along, effects_along, front_below, row_labels, then_compares}
use Rattle.search.proofs.rows.RowAlong.compare.Goals as goal

pub returns-then-x-y : goal.returns-then-x-y
returns-then-x-y c =
    let N : Model = model_of c.args.self.now.net.now in
    let a = at c.args.self.now.places.now in
    let b = at c.args.other.now.places.now in
    let t : ℕ = c.args.self.now.transition in
    let u : ℕ = c.args.other.now.transition in
    subst (λ (n : Arrays). Compares c.cmp.result (row N a t) (row (model_of n) b u)) (sym c.requires)
    (subst (λ (o : Ordering). Compares o (row N a t) (row N b u)) (sym c.cmp.ensures) (row_labels N a b t u c.if-x-y.true))

pub compare_weights-causes-requires-clause-first : goal.compare_weights-causes-requires-clause-first
compare_weights-causes-requires-clause-first c = front_below c.args.self.now.places.now c.args.self.now.net.now.places 64 c.args.self.now.within

pub compare_weights-causes-requires-clause-second : goal.compare_weights-causes-requires-clause-second
compare_weights-causes-requires-clause-second c = front_below c.args.other.now.places.now c.args.self.now.net.now.places 64 (subst (λ (n : Arrays). (i : ℕ) → i < n.places → at c.args.other.now.places.now i < 64) c.requires c.args.other.now.within)

pub returns : goal.returns
unfolding row
returns c =
    let N : Model = model_of c.args.self.now.net.now in
    let a = at c.args.self.now.places.now in
    let b = at c.args.other.now.places.now in
    let t : ℕ = c.args.self.now.transition in
    let u : ℕ = c.args.other.now.transition in
    let n : ℕ = N.places in
    let xs : List ℕ = c.args.self.now.places.now in
    let ys : List ℕ = c.args.other.now.places.now in
    let label : N.transition_label t ≡ N.transition_label u = omega (arith, c.if-x-y.false) in
    let one : Compares c.compare_weights-causes.result (causes_along N a t) (causes_along N b u) =
    (let e : Compares c.compare_weights-causes.result (weights_along (row_or_blank c.args.self.now.net.now.rows t).cause (take n xs)) (weights_along (row_or_blank c.args.self.now.net.now.rows u).cause (take n ys)) = search rules in
    along_both c.compare_weights-causes.result (N.cause t) (N.cause u) xs ys n (omega (arith, length-take n xs)) (omega (arith, length-take n ys)) e) in
    subst (λ (n : Arrays). Compares c.then_with.result (row N a t) (row (model_of n) b u)) (sym c.requires)
    (after_label c.then_with.result _ _ _ _ label
    (then_compares c.compare_weights-causes.result c.then_with.result (causes_along N a t) (causes_along N b u) (effects_along N a t) (effects_along N b u)
    (omega (arith, length-map-range_with_len {X = ℕ})) one c.then_with.ensures
    (λ h. let e : Compares c.then_with.result (weights_along (row_or_blank c.args.self.now.net.now.rows t).effect (take n xs)) (weights_along (row_or_blank c.args.self.now.net.now.rows u).effect (take n ys)) = search rules in
    along_both c.then_with.result (N.effect t) (N.effect u) xs ys n (omega (arith, length-take n xs)) (omega (arith, length-take n ys)) e)))
