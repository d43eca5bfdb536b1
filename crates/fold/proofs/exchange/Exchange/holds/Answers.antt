use Rattle.std.proofs.Common.{◌<◌, sym, arith}
use Rattle.std.proofs.lemmas.Bool.{or_from, or_right, and_from, not_from_true, lt-ltb}
use Rattle.finite.proofs.Tests.{all_more, all_fails, any_from}
use Rattle.bisimulation.specs.Rounds.{exchanges}
use Rattle.fold.proofs.Loops.{any_end}
use Rattle.fold.proofs.exchange.Exchange.holds.Goals as goal

-- a partner is found
pub transitions-preserved : goal.transitions-preserved
transitions-preserved g c = all_more c.transitions.t _ c.transitions.invariant
    (or_right _ _ (any_from _ _ c.loop-u.u (omega (arith, c.transitions-u-end.ensures))
    (and_from _ _ (sym c.if-same.ensures) (sym c.if-replaces.ensures))))

-- no partner: the exchange does not hold
pub returns-in-transitions : goal.returns-in-transitions
unfolding exchanges
returns-in-transitions g c =
    let some : 0 < (g.N.Net.model c.args.among.now.net.now).cause c.transitions.t c.args.self.from.0 = omega arith in
    sym (all_fails _ _ c.transitions.t (omega (arith, c.transitions-t-end.ensures))
    (or_from _ _ (not_from_true _ (lt-ltb 0 _ some)) (any_end c.loop-u.u _ _ (omega (arith, c.transitions-u-end.ensures)) c.loop-u.invariant)))
