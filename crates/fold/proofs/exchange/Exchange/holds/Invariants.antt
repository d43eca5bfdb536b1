use Rattle.std.proofs.Common.{◌≡◌, true, false, not, ◌&&◌, ◌||◌, ltb}
use Rattle.finite.specs.Below.{all_below, any_below}
use Rattle.bisimulation.specs.Rounds.{replaces}
use Rattle.fold.specs.Grouped.{groups_of}
use Rattle.fold.proofs.exchange.Exchange.holds.Given as goal

abbrev pub invariant-transitions : goal.invariant-transitions
invariant-transitions g l = let m = g.N.Net.model l.among.net.now in let p = l.self.from.0 in let q = l.self.to.0 in
    all_below l.t (λ t. not (ltb 0 (m.cause t p)) || any_below m.transitions (λ u. (groups_of l.among.groups.now).same_transition t u && replaces m p q t u)) ≡ true

abbrev pub invariant-loop-u : goal.invariant-loop-u
invariant-loop-u g l = let m = g.N.Net.model l.among.net.now in let p = l.self.from.0 in let q = l.self.to.0 in
    any_below l.u (λ u. (groups_of l.among.groups.now).same_transition l.t u && replaces m p q l.t u) ≡ false
