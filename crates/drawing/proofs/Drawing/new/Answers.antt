use Rattle.std.proofs.Common.{◌≡◌, ℕ, List, replicate, rules, refl}
use Rattle.finite.proofs.Tables.{zero_list}
use Rattle.net.specs.Model.{Lawful, empty}
use Rattle.net.proofs.Empty.{lawful_empty}
use Rattle.drawing.specs.Arrays.{Shows}
use Rattle.drawing.specs.declared.arrays.Row.{Row}
use Rattle.drawing.proofs.Held.{Holds, held, held_net, net_in}
use Rattle.drawing.proofs.Filled.{repeated}
use Rattle.drawing.proofs.Drawing.new.Goals as goal

module _ (ls : List ℕ) (rs : List Row) (e : ls ≡ replicate 64 0) (f : rs ≡ replicate 128 (record { label = 0; cause = replicate 64 0; effect = replicate 64 0 })) where
  blank : Holds empty 0 0 ls rs
  blank = record {
    places = refl;
    transitions = refl;
    labels = rw e (zero_list 64);
    rows = rw f (λ t. repeated (Shows empty t) _ _ (record { label = refl; cause = zero_list 64; effect = zero_list 64 }) (record { label = refl; cause = λ _. refl; effect = λ _. refl }) 128 t);
  }

  blank_held : Lawful (net_in 0 0 ls rs)
  blank_held = held empty 0 0 ls rs blank lawful_empty

  blank_net : net_in 0 0 ls rs ≡ empty
  blank_net = held_net empty 0 0 ls rs blank

pub invariant_of-result-2 : goal.invariant_of-result-2
invariant_of-result-2 c = search (rules, blank_held)

pub returns : goal.returns
returns c = search (rules, blank_net)
