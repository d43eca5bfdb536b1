use Rattle.std.proofs.Common.{◌≡◌, ℕ, suc, ◌+◌, ◌*◌, ◌<◌, ◌≤◌, List, length, take, nat_eq, sym, ap, ◌∙◌, ap₂, arith}
use Rattle.std.specs.List.{count_by}
use Rattle.std.proofs.lemmas.List.{length-take-le, get_or-take}
use Rattle.finite.specs.Products.{product_below}
use Rattle.finite.proofs.Products.{product_none, product_more, product_rises}
use Rattle.arrangement.specs.Arrangements.{at}
use Rattle.normal.specs.Counts.{choices}
use Rattle.normal.proofs.Chains.{count_first}
use Rattle.normal.proofs.count.count_arrangements.Goals as goal

-- the ways to put the places before p, and p among them
ways_more : (labels : List ℕ) (n p ways more : ℕ) → n ≤ length labels → p < n → ways ≡ product_below p (choices labels) →
    more ≡ suc (count_by (λ other. nat_eq other (at (take n labels) p)) (take p labels)) → ways * more ≡ product_below (p + 1) (choices labels)
ways_more labels n p ways more room l e h =
    let earlier : ℕ → ℕ = λ label. suc (count_by (λ other. nat_eq other label) (take p labels)) in
    ap₂ ◌*◌ e (h ∙ ap earlier (get_or-take n labels p 0 l) ∙ ap suc (count_first (λ other. nat_eq other (at labels p)) labels p (omega arith)))
    ∙ sym (product_more p (choices labels))

pub loop-p-init : goal.loop-p-init
loop-p-init c = (omega arith, sym (product_none _))

pub returns-then-ways-gt-MOST_ARRANGEMENTS : goal.returns-then-ways-gt-MOST_ARRANGEMENTS
returns-then-ways-gt-MOST_ARRANGEMENTS c =
    let labels = c.args.net.now.place_labels in
    let n = c.from.result in
    let p = c.loop-p.p in
    let l : p < n = omega (arith, length-take-le n labels) in
    let more = ways_more labels n p _ _ (omega arith) l c.loop-p.invariant.1 c.choices-ways.ensures.0 in
    omega (arith, more, product_rises (p + 1) c.args.net.now.places (choices labels) (omega arith) (λ i. omega arith))

pub loop-p-preserved : goal.loop-p-preserved
loop-p-preserved c =
    let labels = c.args.net.now.place_labels in
    let n = c.from.result in
    let l : c.loop-p.p < n = omega (arith, length-take-le n labels) in
    (omega arith, ways_more labels n c.loop-p.p _ _ (omega arith) l c.loop-p.invariant.1 c.choices-ways.ensures.0)
