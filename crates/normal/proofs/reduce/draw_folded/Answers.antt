use Rattle.std.proofs.Common.{◌∙◌, ap₂}
use Rattle.fold.specs.declared.grouping.Grouping.{Grouping}
use Rattle.fold.specs.Layer.{folded_by}
use Rattle.normal.proofs.Reducing.{own_folded}
use Rattle.normal.proofs.reduce.draw_folded.Goals as goal

pub returns : goal.returns
returns g c =
    c.copy_of.ensures
    ∙ ap₂ (λ x (s : Grouping). folded_by (g.N.Net.model x) s) c.over-folded.ensures.below.0 c.over-folded.ensures.below.1
    ∙ own_folded (g.N.Net.model c.args.net.now) c.args.groups.now c.requires
