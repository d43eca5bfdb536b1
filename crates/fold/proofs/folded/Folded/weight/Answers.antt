use Rattle.std.proofs.Common.{length, sym, ◌∙◌, arith}
use Rattle.fold.proofs.Layered.{leader_below, weight_read}
use Rattle.fold.proofs.folded.Folded.weight.Goals as goal

pub group_weight-requires : goal.group_weight-requires
group_weight-requires g c =
    let x = c.args.self.now in
    let places = x.below.groups.now.places in
    omega (
      arith,
      places.few,
      c.in-Some-get.ensures.1,
      leader_below places.leaders places.members (length x.places.listed.items) x.places.listed.items c.args.place.0 x.place_leaders.0 x.place_leaders.1 c.in-Some-get.ensures.0,
    )

pub returns : goal.returns
returns g c =
    let x = c.args.self.now in
    c.group_weight.ensures
    ∙ weight_read (g.N.Net.model x.below.net.now) x.below.groups.now (sym c.if-not-fits.ensures) c.args.bag c.args.transition.0 c.args.place.0
    c.in-Some.leader.0 c.in-Some-get.member.0
    (omega (arith, x.transition_leaders.0, c.in-Some.ensures.0)) (omega (arith, x.place_leaders.0, c.in-Some-get.ensures.0))
    (c.in-Some.ensures.1 ∙ x.transition_leaders.1 c.args.transition.0 c.in-Some.ensures.0) (c.in-Some-get.ensures.1 ∙ x.place_leaders.1 c.args.place.0 c.in-Some-get.ensures.0)
