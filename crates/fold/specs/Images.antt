-- Numbers with the same image are together: an equivalence. Assumes nothing.
use Rattle.std.proofs.Common.{sym, ◌∙◌}
use Rattle.std.specs.Prelude.{ℕ, nat_eq, refl}
use Rattle.std.proofs.lemmas.Bool.{eqb-true, eq-eqb}
use Rattle.bisimulation.specs.Groups.{Equivalence}

pub by_image : (n : ℕ) (f : ℕ → ℕ) → Equivalence n (λ a b. nat_eq (f a) (f b))
by_image n f = record {
  self = λ a _. eq-eqb (f a) (f a) refl;
  turn = λ a b _ _ h. eq-eqb (f b) (f a) (sym (eqb-true (f a) (f b) h));
  join = λ a b c _ _ _ h k. eq-eqb (f a) (f c) (eqb-true (f a) (f b) h ∙ eqb-true (f b) (f c) k);
}
