-- Tests over the numbers below a bound, as a loop meets them.
use Rattle.std.proofs.Common.{◌≡◌, ℕ, ◌+◌, Bool, false, refl, subst, add-one}
use Rattle.std.proofs.lemmas.Bool.{or_from}
use Rattle.finite.specs.Below.{any_below}
use Rattle.finite.proofs.Tests.{all_none, all_more, all_fails, any_from}

pub any_none : (f : ℕ → Bool) → any_below 0 f ≡ false
unfolding any_below
any_none f = refl

pub any_more : (n : ℕ) (f : ℕ → Bool) → any_below n f ≡ false → f n ≡ false → any_below (n + 1) f ≡ false
unfolding any_below
any_more n f h e = rw add-one (or_from (any_below n f) (f n) h e)

pub any_end : (k n : ℕ) (f : ℕ → Bool) → k ≡ n → any_below k f ≡ false → any_below n f ≡ false
any_end k n f e h = subst (λ (i : ℕ). any_below i f ≡ false) e h

-- what the steps of such a loop ask
pub ruleset below_steps = (all_none, all_more, all_fails, any_none, any_more, any_from)
