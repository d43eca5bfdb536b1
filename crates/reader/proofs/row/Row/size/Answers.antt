use Rattle.std.proofs.Common.{◌≡◌, ◌+◌, ◌*◌, rules, arith, ◌∙◌}
use Rattle.std.proofs.lemmas.Iterator.{YieldsList-from_range, YieldsList-from_map}
use Rattle.std.proofs.lemmas.Iterator.Consumers.{sum_from_yields_List}
use Rattle.std.proofs.lemmas.Iterator.Adapters.{fits_from_length, at_most_from_yields_List}
use Rattle.std.proofs.lemmas.List.FromFn.{length-range_with_len}
use Rattle.format.specs.Sheets.{weights_from}
use Rattle.format.proofs.Nets.{field_below}
use Rattle.reader.specs.Offsets.{bag_at}
use Rattle.finite.proofs.Ranges.{sum_range}
use Rattle.reader.proofs.row.Row.size.Goals as goal

pub sum-requires-clause-fits : goal.sum-requires-clause-fits
sum-requires-clause-fits c =
    let n = c.args.self.now.fields.head.places in
    let bs = c.args.self.now.fields.bytes.now in
    let at = bag_at c.args.bag n c.args.self.now.transition.0 in
    fits_from_length _ _ 255 _ (at_most_from_yields_List (YieldsList-from_range 0 n n c.map.ensures.source (omega arith)) (omega (arith, length-range_with_len 0 n, field_below bs 4 7))) c.map.ensures.closure (omega arith)
    (λ x r q k. (search rules, let e : r ≡ weights_from bs at x = search rules in omega (arith, field_below bs (at + 8 * x) 8)))

pub returns : goal.returns
returns c =
    let n = c.args.self.now.fields.head.places in
    let f = weights_from c.args.self.now.fields.bytes.now (bag_at c.args.bag n c.args.self.now.transition.0) in
    sum_from_yields_List _ _ c.sum.ensures.ran (YieldsList-from_map _ f (YieldsList-from_range 0 n n c.map.ensures.source (omega arith)) c.map.ensures.closure (λ x r q k. search rules)) ∙ sum_range n f
