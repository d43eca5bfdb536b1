-- The tokens of a bag in a group, summed from the lowest place on.
use Rattle.std.proofs.Common.{◌≡◌, ℕ, zero, suc, ◌+◌, ◌<◌, ◌≤◌, Bool, true, false, cond, ap, inl, inr, arith}
use Rattle.std.proofs.lemmas.Bool.{cases_eq, cond-true, cond-false}
use Rattle.finite.specs.Below.{sum_below}
use Rattle.finite.proofs.Sums.{sum_none, sum_more, sum_le}
use Rattle.net.specs.Model.{Model, Lawful}
use Rattle.net.specs.Bags.{weights}
use Rattle.net.specs.declared.bag.Bag.{Bag}
use Rattle.net.specs.declared.bag.Bag.TheVariants.{Cause, Effect}
use Rattle.bisimulation.specs.Rounds.{group_count}

sum_longer : (n m : ℕ) (f : ℕ → ℕ) → n ≤ m → sum_below n f ≤ sum_below m f
unfolding sum_below
sum_longer n zero f h = let e : n ≡ 0 = omega arith in omega (arith, ap (λ (k : ℕ). sum_below k f) e)
sum_longer n (suc m) f h =
    elim (cases_eq n (suc m)) [
      | inl e ↦ omega (arith, ap (λ (k : ℕ). sum_below k f) e)
      | inr e ↦ omega (arith, sum_longer n m f (omega arith))
    ]

cond_le : (b : Bool) (x : ℕ) → cond b x 0 ≤ x
cond_le true x = omega arith
cond_le false x = omega arith

module _ (same : ℕ → ℕ → Bool) (bag : ℕ → ℕ) (g : ℕ) where
  pub group_none : group_count 0 same bag g ≡ 0
  unfolding group_count
  group_none = sum_none (λ p. cond (same p g) (bag p) 0)

  pub group_in : (n : ℕ) → same n g ≡ true → group_count (n + 1) same bag g ≡ group_count n same bag g + bag n
  unfolding group_count
  group_in n e = omega (arith, sum_more n (λ p. cond (same p g) (bag p) 0), cond-true (same n g) (bag n) 0 e)

  pub group_out : (n : ℕ) → same n g ≡ false → group_count (n + 1) same bag g ≡ group_count n same bag g
  unfolding group_count
  group_out n e = omega (arith, sum_more n (λ p. cond (same p g) (bag p) 0), cond-false (same n g) (bag n) 0 e)

  -- a group holds no more than the whole
  pub group_room : (n m : ℕ) → n < m → same n g ≡ true → group_count n same bag g + bag n ≤ sum_below m bag
  unfolding group_count
  group_room n m l e =
      omega (
        arith,
        group_in n e,
        sum_le (n + 1) (λ p. cond (same p g) (bag p) 0) bag (λ p _. cond_le (same p g) (bag p)),
        sum_longer (n + 1) m bag (omega arith),
      )

bag_small : (bag : Bag) (m : Model) → Lawful m → (t : ℕ) → sum_below m.places (weights bag m t) ≤ 255
bag_small Cause m l t = l.sizes.0 t
bag_small Effect m l t = l.sizes.1 t

-- in a lawful net a group and one more of its places hold no more than a bag
pub group_fits : (bag : Bag) (m : Model) (same : ℕ → ℕ → Bool) (t g n : ℕ) → Lawful m → n < m.places → same n g ≡ true →
    group_count n same (weights bag m t) g + weights bag m t n ≤ 255
group_fits bag m same t g n law l e = omega (arith, group_room same (weights bag m t) g n m.places l e, bag_small bag m law t)

-- what a loop over the places of a group asks
pub ruleset group_steps = (group_none, group_in, group_out, group_fits)
