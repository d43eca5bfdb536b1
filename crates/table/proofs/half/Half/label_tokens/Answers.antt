use Rattle.std.proofs.Common.{ℕ, ◌≤◌, cond, ◌==◌, rules, arith, ap, ◌∙◌}
use Rattle.finite.specs.Below.{sum_below}
use Rattle.arrangement.specs.Arrangements.{at}
use Rattle.play.specs.Shows.{label_tokens}
use Rattle.table.specs.Views.{net_of, held}
use Rattle.table.proofs.Ranges.{sum_fits, sum_is}
use Rattle.table.proofs.half.Half.label_tokens.Goals as goal

pub sum-requires-clause-fits : goal.sum-requires-clause-fits
sum-requires-clause-fits c =
    sum_fits c.places.result _ _ c.map.ensures.source c.map.ensures.closure (omega (arith, c.args.self.now.net.arrays.few.0))
    (λ x r q k. (search rules, let b : r ≤ 1000000 = search rules in omega arith))

pub returns : goal.returns
unfolding label_tokens
returns c =
    let s = c.args.self.now in
    let f : ℕ → ℕ = λ p. cond ((net_of s).place_label p == c.args.label.0) (at (held s) p) 0 in
    sum_is c.places.result _ _ c.map.ensures.source c.map.ensures.closure f _ c.sum.ensures.ran (λ x r q k. search rules) ∙ ap (λ k. sum_below k f) c.places.ensures
