use Rattle.std.proofs.Common.{◌+◌, sym, arith}
use Rattle.fold.proofs.AtRound.{at_labels, at_next, few_rounds, rested, final_divided}
use Rattle.fold.proofs.fold.fold.Goals as goal

pub loop-next-init : goal.loop-next-init
loop-next-init g c = at_labels (g.N.Net.model c.args.net.now) c.label_round.result c.label_round.ensures

pub returns-then-as_many : goal.returns-then-as_many
returns-then-as_many g c =
    let m = g.N.Net.model c.args.net.now in
    let even = c.if-as_many.ensures in
    let divides = final_divided m c.loop-next.rounds c.loop-next.groups c.next_round-next.result c.loop-next.invariant c.next_round-next.ensures even in
    record {
      places = divides.on_places.number;
      transitions = divides.on_transitions.number;
      rounds = sym (rested m c.loop-next.rounds c.loop-next.groups c.next_round-next.result c.loop-next.invariant c.next_round-next.ensures even);
      groups = divides;
    }

pub overflow_add-rounds : goal.overflow_add-rounds
overflow_add-rounds g c = omega (arith, few_rounds (g.N.Net.model c.args.net.now) (g.N.Net.lawful c.args.net.now) c.loop-next.rounds c.loop-next.groups c.loop-next.invariant)

pub loop-next-smaller : goal.loop-next-smaller
loop-next-smaller g c =
    let m = g.N.Net.model c.args.net.now in
    omega (
      arith,
      few_rounds m (g.N.Net.lawful c.args.net.now) (c.loop-next.rounds + 1) c.next_round-next.result
          (at_next m c.loop-next.rounds c.loop-next.groups c.next_round-next.result c.loop-next.invariant c.next_round-next.ensures c.if-as_many.ensures),
    )

pub loop-next-preserved : goal.loop-next-preserved
loop-next-preserved g c =
    at_next (g.N.Net.model c.args.net.now) c.loop-next.rounds c.loop-next.groups c.next_round-next.result c.loop-next.invariant c.next_round-next.ensures c.if-as_many.ensures
