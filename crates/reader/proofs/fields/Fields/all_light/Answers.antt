use Rattle.std.proofs.Common.{ℕ, rules, ap₂, ◌∙◌}
use Rattle.finite.specs.Below.{all_below}
use Rattle.finite.proofs.Ranges.{all_range}
use Rattle.format.specs.Sheets.{light_at}
use Rattle.reader.proofs.fields.Fields.all_light.Goals as goal

pub returns : goal.returns
returns c =
    let x = c.args.self.now in
    all_range (light_at x.bytes.now x.head.places) x.head.transitions _ _ _ c.all.ensures.ran (λ t b q k. search rules)
    ∙ ap₂ (λ (n ts : ℕ). all_below ts (light_at x.bytes.now n)) x.headed.places x.headed.transitions
