use Rattle.std.proofs.Common.{length, refl}
use Rattle.fold.proofs.Layered.{label_answers, transitions_fit}
use Rattle.fold.proofs.folded.answers.FoldedNet.transition_label.Goals as goal

pub returns : goal.returns
returns g c =
    let x = c.args.self.now in
    let m = g.N.Net.model x.below.net.now in
    let groups = x.below.groups.now in
    label_answers m groups (λ o. o.transitions) (λ o. o.transition_label) groups.transitions.leaders groups.transitions.members (transitions_fit m groups) refl refl
    (length x.transitions.listed.items) x.transitions.listed.items x.transition_leaders.0 x.transition_leaders.1 c.args.transition.0 c.in_ok-leader.leader.0 c.transition_label.result c.in_ok-leader.ensures.0 c.in_ok-leader.ensures.1 c.transition_label.ensures
