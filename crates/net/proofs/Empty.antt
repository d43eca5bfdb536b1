-- The empty net is lawful, and it is the only lawful net with no place and no transition.
use Rattle.std.proofs.Common.{◌≡◌, refl, arith}
use Rattle.finite.proofs.Sums.{sum_none}
use Rattle.net.specs.Model.{Model, Lawful, empty}
use Rattle.net.proofs.Agrees.{one_model}

pub lawful_empty : Lawful empty
lawful_empty = record {
  few_places = omega arith;
  few_transitions = omega arith;
  place_labels = (λ _. omega arith, λ _ _. refl);
  transition_labels = (λ _. omega arith, λ _ _. refl);
  sizes = (λ _. omega (arith, sum_none (λ _. 0)), λ _. omega (arith, sum_none (λ _. 0)));
  causes = λ _ _ _. refl;
  effects = λ _ _ _. refl;
}

pub empty_from : (m : Model) → Lawful m → m.places ≡ 0 → m.transitions ≡ 0 → m ≡ empty
empty_from m w p t = one_model m empty w lawful_empty (record {
  places = p;
  transitions = t;
  place_labels = λ i h. absurd (omega arith);
  transition_labels = λ i h. absurd (omega arith);
  causes = λ i j h l. absurd (omega arith);
  effects = λ i j h l. absurd (omega arith);
})
