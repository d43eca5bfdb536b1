use Rattle.std.proofs.Common.{length, refl}
use Rattle.fold.proofs.Layered.{label_answers, places_fit}
use Rattle.fold.proofs.folded.answers.FoldedNet.place_label.Goals as goal

pub returns : goal.returns
returns g c =
    let x = c.args.self.now in
    let m = g.N.Net.model x.below.net.now in
    let groups = x.below.groups.now in
    label_answers m groups (λ o. o.places) (λ o. o.place_label) groups.places.leaders groups.places.members (places_fit m groups) refl refl
    (length x.places.listed.items) x.places.listed.items x.place_leaders.0 x.place_leaders.1 c.args.place.0 c.in_ok-leader.leader.0 c.place_label.result c.in_ok-leader.ensures.0 c.in_ok-leader.ensures.1 c.place_label.ensures
