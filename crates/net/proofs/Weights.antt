-- The weights of either bag of a lawful net.
use Rattle.net.specs.Model.{Model, Lawful, Outside}
use Rattle.net.specs.Bags.{weights}
use Rattle.net.specs.declared.bag.Bag.{Bag}
use Rattle.net.specs.declared.bag.Bag.TheVariants.{Cause, Effect}

pub weights_outside : (bag : Bag) (m : Model) → Lawful m → Outside m.places m.transitions (weights bag m)
weights_outside Cause m h = h.causes
weights_outside Effect m h = h.effects
