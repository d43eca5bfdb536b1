-- The two bags of a transition. Assumes nothing.
use Rattle.std.specs.Prelude.{ℕ}
use Rattle.net.specs.Model.{Model}
use Rattle.net.specs.declared.bag.Bag.{Bag}
use Rattle.net.specs.declared.bag.Bag.TheVariants.{Cause, Effect}

-- the weights of every transition's bag
abbrev pub weights : Bag → Model → ℕ → ℕ → ℕ
weights Cause m = m.cause
weights Effect m = m.effect

-- the other of the two bags
abbrev pub other_bag : Bag → Bag
other_bag Cause = Effect
other_bag Effect = Cause
