use Rattle.std.proofs.Common.{◌≡◌, ℕ, List, Ordering, length, slice_index, sym, ap, ap₂, ◌∙◌, subst, arith}
use Rattle.std.specs.Ordering.{nat_cmp}
use Rattle.std.proofs.lemmas.Slice.Zip.{zip_turn, zip_end}
use Rattle.search.specs.Rows.{Compares, weights_along}
use Rattle.search.proofs.Comparing.{read_alike, read_apart}
use Rattle.search.proofs.rows.compare_weights.Goals as goal

pub returns-then-v-w : goal.returns-then-v-w
returns-then-v-w c =
    let x : List ℕ = c.args.x.now in
    let y : List ℕ = c.args.y.now in
    let a : List ℕ = c.args.a.now in
    let b : List ℕ = c.args.b.now in
    let i : ℕ = length c.loop-p.yielded in
    let turn = zip_turn a b c.loop-p.yielded c.into_iter-p-iterator.result c.loop-p.p-iterator c.next.new.self c.next.result (cc) (cc) c.loop-p.yielded_by _ c.in-Some.is c.next.ensures.steps in
    let v : slice_index x c.in-Some.p.now ≡ slice_index x (slice_index a i) = ap (slice_index x) (turn.2 0) in
    let w : slice_index y c.in-Some.q.now ≡ slice_index y (slice_index b i) = ap (slice_index y) (turn.3 0) in
    let is : nat_cmp (slice_index x (slice_index a i)) (slice_index y (slice_index b i)) ≡ c.cmp.result = sym (ap₂ nat_cmp v w) ∙ sym c.cmp.ensures in
    subst (λ (o : Ordering). Compares o (weights_along x a) (weights_along y b)) is
    (read_apart (slice_index x) (slice_index y) a b i turn.0 turn.1 c.loop-p.invariant (λ e. c.if-v-w.true (v ∙ e ∙ sym w)))

pub returns : goal.returns
returns c =
    let count = zip_end c.args.a.now c.args.b.now c.loop-p.yielded c.into_iter-p-iterator.result c.loop-p.p-iterator c.next.new.self c.next.result (cc) (cc) c.loop-p.yielded_by c.in-None.is c.next.ensures.steps in
    read_alike (slice_index c.args.x.now) (slice_index c.args.y.now) c.args.a.now c.args.b.now c.requires.long (λ k l. c.loop-p.invariant k (omega (arith, count)))
