use Rattle.std.proofs.Common.{ℕ, ◌<◌, Bool, eqb, get_or, ap, ◌∙◌, ap₂, arith, rules}
use borrow.Author.Tests.{tests}
use Rattle.finite.specs.Below.{all_below}
use Rattle.bisimulation.specs.Rounds.{same_counts}
use Rattle.finite.proofs.Ranges.{all_range, all_same}
use Rattle.fold.proofs.grouped.GroupedNet.same_counts.Goals as goal

pub returns : goal.returns
unfolding same_counts
returns g c =
    let m = g.N.Net.model c.args.self.now.net.now in
    let count = λ (leader : ℕ). eqb (get_or c.tally-left.result leader 0) (get_or c.tally-right.result leader 0) in
    let test : ℕ → Bool = λ x. count (get_or c.args.self.now.groups.now.places.leaders x 0) in
    all_range test c.places.result _ _ _ c.all.ensures.ran (λ x b q k. search (rules, tests)) ∙ ap (λ (n : ℕ). all_below n test) c.places.ensures
    ∙ all_same m.places _ _ (λ x l.
    let below : x < 64 = omega (arith, (g.N.Net.lawful c.args.self.now.net.now).few_places) in
    ap₂ eqb (c.tally-left.ensures x below) (c.tally-right.ensures x below))
