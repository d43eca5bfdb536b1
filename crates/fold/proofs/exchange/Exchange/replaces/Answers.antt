use Rattle.std.proofs.Common.{ℕ, ◌+◌, Bool, eqb, ap, ◌∙◌, rules}
use borrow.Author.Tests.{tests}
use Rattle.finite.specs.Below.{all_below}
use Rattle.bisimulation.specs.Rounds.{unit, replaces}
use Rattle.finite.proofs.Ranges.{all_range}
use Rattle.fold.proofs.exchange.Exchange.replaces.Goals as goal

pub returns : goal.returns
unfolding replaces
returns g c =
    let m = g.N.Net.model c.args.net.now in
    let test : ℕ → Bool = λ x. eqb (m.cause c.args.u.0 x + unit c.args.self.from.0 x) (m.cause c.args.t.0 x + unit c.args.self.to.0 x) in
    all_range test c.places.result _ _ _ c.all.ensures.ran (λ x b q k. search (rules, tests)) ∙ ap (λ (n : ℕ). all_below n test) c.places.ensures
