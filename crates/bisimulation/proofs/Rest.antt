-- The rounds come to rest, and the round reported is the least stable one.
use Rattle.std.proofs.Common.{◌≡◌, ℕ, zero, suc, ◌+◌, ◌*◌, ◌<◌, ◌≤◌, Bool, true, ◌⊎◌, subst, inl, inr, ⊎_elim, arith}
use Rattle.std.proofs.lemmas.Bool.{cases_Bool, cases_eq, cases_order, both_ways}
use Rattle.finite.specs.Below.{sum_below, count_below}
use Rattle.finite.proofs.Given.{given}
use Rattle.finite.proofs.Sums.{sum_le, sum_lt, sum_most}
use Rattle.finite.proofs.Counts.{count_le, count_lt, count_most}
use Rattle.finite.proofs.Searches.{find_more, first_cases}
use Rattle.net.specs.Model.{Model}
use Rattle.bisimulation.specs.Groups.{Groups, Within}
use Rattle.bisimulation.specs.Rounds.{refine, rounds, Stable, stable, rest, final}
use Rattle.bisimulation.proofs.Views.{place_says, transition_says, stable_says, says_stable}

-- a round is within the one before
pub refine_within : (m : Model) (r : Groups) → Within m (refine m r) r
refine_within m r = record { on_places = λ p q _ _ h. (place_says m r p q h).before; on_transitions = λ t u _ _ h. (transition_says m r t u h).before }

-- how many ordered pairs below n pass the test
pairs : ℕ → (ℕ → ℕ → Bool) → ℕ
pairs n same = sum_below n (λ a. count_below n (same a))

pairs_most : (n : ℕ) (same : ℕ → ℕ → Bool) → pairs n same ≤ n * n
unfolding pairs
pairs_most n same = sum_most n n _ (λ a _. count_most n (same a))

-- a test within another passes fewer pairs, or it parts none
fewer_pairs :
    (n : ℕ) (old new : ℕ → ℕ → Bool) →
    ((a b : ℕ) → a < n → b < n → new a b ≡ true → old a b ≡ true) →
    (pairs n new ≤ pairs n old) × (((a b : ℕ) → a < n → b < n → old a b ≡ true → new a b ≡ true) ⊎ (pairs n new < pairs n old))
unfolding pairs
fewer_pairs n old new h = (sum_le n _ _ rows, at (find_more n (λ a. count_below n (old a)) (λ a. count_below n (new a))))
  where
    rows : (a : ℕ) → a < n → count_below n (new a) ≤ count_below n (old a)
    rows a i = count_le n (new a) (old a) (λ b j. h a b i j)

    at :
        ((a : ℕ) × (a < n) × (count_below n (new a) < count_below n (old a))) ⊎ ((a : ℕ) → a < n → count_below n (old a) ≤ count_below n (new a)) →
        ((a b : ℕ) → a < n → b < n → old a b ≡ true → new a b ≡ true) ⊎ (pairs n new < pairs n old)
    at (inl f) = inr (sum_lt n _ _ rows f.0 f.1 f.2)
    at (inr f) =
        inl
        λ a b i j e.
        elim (cases_Bool (new a b)) [
          | inl y ↦ y
          | inr y ↦ absurd (omega (arith, f a i, count_lt n (new a) (old a) (λ c k. h a c i k) b j y e))
        ]

-- how many pairs are together in all
together : Model → Groups → ℕ
together m r = pairs m.places r.same_place + pairs m.transitions r.same_transition

-- a grouping is stable, or the next has fewer pairs
stable_or_less : (m : Model) (r : Groups) → Stable m r ⊎ (together m (refine m r) < together m r)
unfolding together
stable_or_less m r =
    given (fewer_pairs m.places r.same_place (refine m r).same_place (refine_within m r).on_places) λ a.
    given (fewer_pairs m.transitions r.same_transition (refine m r).same_transition (refine_within m r).on_transitions) λ b.
    elim a.1 [
      | inr l ↦ inr (omega (arith, b.0))
      | inl f ↦ elim b.1 [ inr l ↦ inr (omega (arith, a.0)) | inl g ↦ inl (record { on_places = f; on_transitions = g }) ]
    ]

comes_to_rest : (m : Model) (fuel k : ℕ) → together m (rounds m k) < fuel → (j : ℕ) × (j < k + fuel) × Stable m (rounds m j)
unfolding rounds
comes_to_rest m zero k d = absurd (omega arith)
comes_to_rest m (suc fuel) k d =
    elim (stable_or_less m (rounds m k)) [
      | inl s ↦ (k, omega arith, s)
      | inr l ↦ given (comes_to_rest m fuel (suc k) (omega arith)) λ f. (f.0, omega arith, f.2)
    ]

-- there are no more rounds than pairs
rest_near : (m : Model) → (j : ℕ) × (j ≤ m.places * m.places + m.transitions * m.transitions) × Stable m (rounds m j)
unfolding together
rest_near m =
    given (comes_to_rest m (suc (together m (rounds m 0))) 0 (omega arith)) λ f. (
      f.0,
      omega (arith, pairs_most m.places (rounds m 0).same_place, pairs_most m.transitions (rounds m 0).same_transition),
      f.2,
    )

pub rest_stable : (m : Model) → Stable m (rounds m (rest m))
unfolding rest
rest_stable m =
    elim (first_cases (m.places * m.places + m.transitions * m.transitions) (λ k. stable m (rounds m k))) [
      | inl f ↦ stable_says m _ f.passes
      | inr f ↦
          given (rest_near m) λ j.
          elim (cases_eq j.0 (rest m)) [
            | inl e ↦ subst (λ k. Stable m (rounds m k)) e j.2
            | inr e ↦ absurd (both_ways _ (f.1 j.0 (omega (arith, f.0))) (says_stable m _ j.2))
          ]
    ]

pub rest_least : (m : Model) (k : ℕ) → k < rest m → Stable m (rounds m k) → ⊥
unfolding rest
rest_least m k l h =
    ⊎_elim (λ f. both_ways _ (f.least k l) (says_stable m _ h)) (λ f. both_ways _ (f.1 k (omega (arith, f.0))) (says_stable m _ h))
    (first_cases (m.places * m.places + m.transitions * m.transitions) (λ k. stable m (rounds m k)))

-- what a loop has to know
pub rest_is : (m : Model) (k : ℕ) → Stable m (rounds m k) → ((j : ℕ) → j < k → Stable m (rounds m j) → ⊥) → rest m ≡ k
rest_is m k h least =
    elim (cases_order (rest m) k) [
      | inl e ↦ e
      | inr (inl l) ↦ absurd (least (rest m) l (rest_stable m))
      | inr (inr l) ↦ absurd (rest_least m k l h)
    ]

pub final_stable : (m : Model) → Stable m (final m)
unfolding final
final_stable m = rest_stable m
