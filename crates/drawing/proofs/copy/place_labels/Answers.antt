use Rattle.std.proofs.Common.{arith}
use Rattle.drawing.proofs.Filled.{filled_more, numbers_none, numbers_all}
use Rattle.drawing.proofs.copy.place_labels.Goals as goal

pub loop-p-init : goal.loop-p-init
loop-p-init g c = numbers_none _

pub loop-p-preserved : goal.loop-p-preserved
loop-p-preserved g c = filled_more _ _ c.loop-p.invariant _ _ c.from.ensures
    (omega (arith, c.places-p-end.ensures, (g.N.Net.lawful c.args.net.now).few_places))
    c.label_number.ensures.0

pub returns : goal.returns
returns g c = numbers_all _ _ _ c.loop-p.invariant
    (λ k l. (g.N.Net.lawful c.args.net.now).place_labels.1 k (omega (arith, c.places-p-end.ensures)))
