use Rattle.std.proofs.Common.{inl, arith}
use Rattle.net.proofs.Weights.{weights_outside}
use Rattle.drawing.proofs.Filled.{filled_more, numbers_none, numbers_all}
use Rattle.drawing.proofs.copy.weights_of.Goals as goal

pub loop-p-init : goal.loop-p-init
loop-p-init g c = numbers_none _

pub loop-p-preserved : goal.loop-p-preserved
loop-p-preserved g c = filled_more _ _ c.loop-p.invariant _ _ c.from.ensures
    (omega (arith, c.places-p-end.ensures, (g.N.Net.lawful c.args.net.now).few_places))
    c.weight.ensures

pub returns : goal.returns
returns g c = numbers_all _ _ _ c.loop-p.invariant
    (λ k l. weights_outside c.args.bag _ (g.N.Net.lawful c.args.net.now) c.args.transition.0 k (inl (omega (arith, c.places-p-end.ensures))))
