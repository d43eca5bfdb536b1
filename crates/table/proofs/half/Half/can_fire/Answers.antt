use Rattle.std.proofs.Common.{ℕ, Bool, ◌&&◌, ◌==◌, rules, ap, ◌∙◌}
use Rattle.finite.specs.Below.{any_below}
use Rattle.finite.proofs.Ranges.{any_range}
use Rattle.play.specs.declared.kinds.Sort.TheVariants.{Fire}
use Rattle.play.specs.Moves.{covers}
use Rattle.play.specs.Shows.{can_fire}
use Rattle.table.specs.Views.{net_of, held}
use Rattle.table.proofs.half.Half.can_fire.Goals as goal

pub returns : goal.returns
unfolding can_fire
returns c =
    let m = net_of c.args.self.now in
    let f : ℕ → Bool = λ t. m.transition_label t == c.args.label.0 && covers m (held c.args.self.now) Fire t in
    any_range f c.transitions.result _ _ _ c.any.ensures.ran (λ t b q k. search rules) ∙ ap (λ (n : ℕ). any_below n f) c.transitions.ensures
