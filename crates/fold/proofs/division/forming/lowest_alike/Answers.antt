use Rattle.std.proofs.Common.{sym, ◌∙◌, arith}
use Rattle.bisimulation.proofs.Leaders.{lowest_is}
use Rattle.fold.proofs.division.forming.lowest_alike.Goals as goal

pub returns-then-alike : goal.returns-then-alike
returns-then-alike g c = sym (lowest_is _ _ _ c.loop-q.q
    (record { lands = omega (arith, c.requires); passes = rw c.nth.ensures at (sym c.alike.ensures ∙ c.if-alike.true); least = c.loop-q.invariant }))

pub returns : goal.returns
returns g c = c.number-p.ensures ∙ sym (lowest_is _ _ _ _
    (record {
      lands = c.requires;
      passes = (g.met.L.Likeness.laws c.args.by.now).self _ c.requires;
      least = λ j l. c.loop-q.invariant j (omega arith);
    }))
