-- What a closure gives for each number below n, summed.
use Rattle.std.proofs.Common.{◌≡◌, ℕ, ◌+◌, ◌<◌, ◌≤◌, List, ◌∙◌, arith}
use Rattle.std.proofs.lemmas.Iterator.{YieldsList-from_range, YieldsList-from_map}
use Rattle.std.proofs.lemmas.Iterator.Consumers.{sum_from_yields_List}
use Rattle.std.proofs.lemmas.Iterator.Adapters.{fits_from_length, at_most_from_yields_List}
use Rattle.std.proofs.lemmas.List.FromFn.{length-range_with_len}
use Rattle.std.proofs.iter.Yields.{nat_range_steps}
use Rattle.std.specs.declared.ops.Range.{Range}
use Rattle.std.specs.declared.iter.Map.{Map}
use Rattle.std.specs.Iterator.{Drains}
use Rattle.std.specs.Iterator.Adapters.{map_source, map_callee, map_steps}
use Rattle.std.specs.Iterator.Runs.{EachRunFrom}
use Rattle.std.specs.List.{fold}
use Rattle.std.specs.Fn.{Called}
use denote.Param.Members.{Mut}
use Rattle.finite.specs.Below.{sum_below}
use Rattle.finite.proofs.Ranges.{sum_range}

-- s gives, for each number below n, what its closure says
module _ {F : Type 0} {g : Mut F (ℕ × Unit {0}) ℕ} (n : ℕ) (s : Map (Range ℕ) F) (c : F) (numbers : map_source s ≡ record { start = 0; end = n }) (callee : map_callee s ≡ c) where
  -- at most 64 numbers below 67,108,864 have a sum below 2 ^ 32
  pub sum_fits : n ≤ 64 → ((x r : ℕ) (q : F) → Called g c (x, tt) r q → (q ≡ c) × (r ≤ 67108863)) → EachRunFrom (map_steps nat_range_steps g) s (λ p. fold (λ a x. a + x) 0 p.items < 4294967296)
  sum_fits few says =
      fits_from_length g c 64 4294967296 (at_most_from_yields_List (YieldsList-from_range 0 n n numbers (omega arith)) (omega (arith, length-range_with_len 0 n, few))) callee (omega arith) says

  pub sum_is : (f : ℕ → ℕ) (r : ℕ) → ((xs : List ℕ) × (Unit {0} → Drains (map_steps nat_range_steps g) s xs) × (r ≡ fold (λ a x. a + x) 0 xs)) →
      ((x r : ℕ) (q : F) → Called g c (x, tt) r q → (q ≡ c) × (r ≡ f x)) → r ≡ sum_below n f
  sum_is f r ran says =
      sum_from_yields_List s r ran (YieldsList-from_map g f (YieldsList-from_range 0 n n numbers (omega arith)) callee says) ∙ sum_range n f
