use Rattle.std.proofs.Common.{ℕ, Bool, leb, rules, tests, ap, ◌∙◌}
use Rattle.finite.specs.Below.{all_below}
use Rattle.finite.proofs.Ranges.{all_range}
use Rattle.arrangement.specs.Arrangements.{at}
use Rattle.play.specs.Moves.{takes, covers}
use Rattle.table.specs.Views.{net_of, held}
use Rattle.table.proofs.half.Half.covers.Goals as goal

pub returns : goal.returns
unfolding covers
returns c =
    let s = c.args.self.now in
    let f : ℕ → Bool = λ x. leb (takes (net_of s) c.args.step.sort c.args.step.number x) (at (held s) x) in
    all_range f c.places.result _ _ _ c.all.ensures.ran (λ x b q k. search (rules, tests)) ∙ ap (λ (n : ℕ). all_below n f) c.places.ensures
