use Rattle.std.proofs.Common.{◌≤◌, rules, arith, ap, sym, ◌∙◌}
use Rattle.finite.specs.Below.{sum_below}
use Rattle.table.specs.Views.{net_of, held, count_after}
use Rattle.table.proofs.Ranges.{sum_fits, sum_is}
use Rattle.table.proofs.Shifts.{shifted_total}
use Rattle.table.proofs.half.shift.Shift.total.Goals as goal

pub sum-requires-clause-fits : goal.sum-requires-clause-fits
sum-requires-clause-fits c =
    sum_fits c.places.result _ _ c.map.ensures.source c.map.ensures.closure (omega (arith, c.args.self.now.half.now.net.arrays.few.0))
    (λ x r q k. (search rules, let b : r ≤ 1000255 = search rules in omega arith))

pub returns : goal.returns
returns c =
    let s = c.args.self.now in
    let h = s.half.now in
    let f = count_after (net_of h) (held h) s.off s.step.sort s.step.number in
    sum_is c.places.result _ _ c.map.ensures.source c.map.ensures.closure f _ c.sum.ensures.ran (λ x r q k. search rules) ∙ ap (λ k. sum_below k f) c.places.ensures
    ∙ sym (shifted_total (net_of h) (held h) s.off s.step.sort s.step.number)
