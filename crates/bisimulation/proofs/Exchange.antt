-- Tokens moved within groups: a bag inside a marking, and the cause of a transition from any bag with its counts.
use Rattle.std.proofs.Common.{◌≡◌, ℕ, zero, suc, ◌+◌, ◌-◌, ◌<◌, ◌≤◌, Bool, true, cond, ◌⊎◌, sym, refl, ap, ◌∙◌, subst, inl, inr, arith}
use Rattle.finite.specs.Below.{sum_below}
use Rattle.finite.proofs.Given.{given}
use Rattle.finite.proofs.Tests.{same_test}
use Rattle.finite.proofs.Sums.{sum_lt}
use Rattle.finite.proofs.Searches.{find_more, find_short}
use Rattle.net.specs.Model.{Model}
use Rattle.bisimulation.specs.Groups.{Groups, Equivalence, Equivalences}
use Rattle.bisimulation.specs.Rounds.{unit, group_count, Stable}
use Rattle.bisimulation.proofs.Bags.{unit_at, unit_self, counts_same, counts_add, counts_unit, cond_less}
use Rattle.bisimulation.proofs.Views.{SameCounts, place_says, transition_says}

-- two places of one group: a has too many tokens for b at one, and too few at the other
record Move (n : ℕ) (same : ℕ → ℕ → Bool) (a b : ℕ → ℕ) : Type 0 where
  from : ℕ
  to : ℕ
  leaves : from < n
  lands : to < n
  together : same from to ≡ true
  many : b from < a from
  few : a to < b to

-- a with one p replaced by one q
abbrev moved : ℕ → ℕ → (ℕ → ℕ) → ℕ → ℕ
moved p q a x = a x + unit q x - unit p x

moved_is : (a : ℕ → ℕ) (p q : ℕ) → 0 < a p → (x : ℕ) → moved p q a x + unit p x ≡ a x + unit q x
moved_is a p q h x = elim (unit_at p x) [ inl e ↦ omega (arith, ap a e.0) | inr e ↦ omega arith ]

-- the tokens of a that are too many for b
excess : ℕ → (ℕ → ℕ) → (ℕ → ℕ) → ℕ
excess n a b = sum_below n (λ x. a x - b x)

cond_at : (t : Bool) (x y : ℕ) → t ≡ true → x < y → cond t x 0 < cond t y 0
cond_at t x y e h = rw e h

module _ (n : ℕ) (same : ℕ → ℕ → Bool) where
  -- a move leaves less excess
  less_excess : (a b c : ℕ → ℕ) (v : Move n same a b) → ((x : ℕ) → x < n → c x + unit v.from x ≡ a x + unit v.to x) → excess n c b < excess n a b
  unfolding excess
  less_excess a b c v h = sum_lt n _ _ (λ x k. each x k (unit_at v.to x)) v.from v.leaves (here (unit_at v.to v.from))
    where
      each : (x : ℕ) → x < n → ((v.to ≡ x) × (unit v.to x ≡ 1)) ⊎ ((v.to ≡ x → ⊥) × (unit v.to x ≡ 0)) → c x - b x ≤ a x - b x
      each x k (inl e) = omega (arith, h x k, subst (λ y. a y < b y) e.0 v.few)
      each x k (inr e) = omega (arith, h x k)

      here : ((v.to ≡ v.from) × (unit v.to v.from ≡ 1)) ⊎ ((v.to ≡ v.from → ⊥) × (unit v.to v.from ≡ 0)) → c v.from - b v.from < a v.from - b v.from
      here (inl e) = absurd (omega (arith, v.many, subst (λ y. a y < b y) e.0 v.few))
      here (inr e) = omega (arith, v.many, h v.from v.leaves, unit_self v.from)

module _ (n : ℕ) (same : ℕ → ℕ → Bool) (E : Equivalence n same) where
  -- where a has no more than b in any group, there is a move, or a is within b
  find_move : (a b : ℕ → ℕ) → ((g : ℕ) → g < n → group_count n same a g ≤ group_count n same b g) → Move n same a b ⊎ ((x : ℕ) → x < n → a x ≤ b x)
  unfolding group_count
  find_move a b h =
      elim (find_more n a b) [
        | inr f ↦ inr f
        | inl p ↦
            given (find_short n (λ x. cond (same x p.0) (a x) 0) (λ x. cond (same x p.0) (b x) 0) (h p.0 p.1) p.0 p.1
            (cond_at (same p.0 p.0) (b p.0) (a p.0) (E.self p.0 p.1) p.2)) λ q.
            given (cond_less (same q.0 p.0) (a q.0) (b q.0) q.2) λ c.
            inl
            (record {
              from = p.0;
              to = q.0;
              leaves = p.1;
              lands = q.1;
              together = E.turn q.0 p.0 q.1 p.1 c.0;
              many = p.2;
              few = c.1;
            })
      ]

  -- bags with equal counts, of which one is within the other, are equal
  pub within_equal :
      (a b : ℕ → ℕ) →
      ((g : ℕ) → g < n → group_count n same a g ≡ group_count n same b g) →
      ((x : ℕ) → x < n → a x ≤ b x) →
      (x : ℕ) →
      x < n →
      a x ≡ b x
  within_equal a b c f x l =
      elim (find_move b a (λ g k. omega (arith, c g k))) [
        | inl v ↦ absurd (omega (arith, v.few, f v.to v.lands))
        | inr h ↦ omega (arith, f x l, h x l)
      ]

  -- a token moved within a group leaves the counts
  counts_moved :
      (a c : ℕ → ℕ) (p q : ℕ) →
      p < n →
      q < n →
      same p q ≡ true →
      ((x : ℕ) → x < n → c x + unit p x ≡ a x + unit q x) →
      (g : ℕ) →
      g < n →
      group_count n same c g ≡ group_count n same a g
  counts_moved a c p q i j s h g k =
      let e = same_test (same p g) (same q g) (λ t. E.join q p g j i k (E.turn p q i j s) t) (λ t. E.join p q g i j k s t) in
      let d : ◌≡◌ {A = ℕ} (cond (same p g) 1 0) (cond (same q g) 1 0) = ap (λ t. cond t 1 0) e in
      omega (
        arith,
        counts_same n same (λ x. c x + unit p x) (λ x. a x + unit q x) g h,
        counts_add n same c (unit p) g,
        counts_add n same a (unit q) g,
        counts_unit n same p g i,
        counts_unit n same q g j,
      )

  -- a move leaves the counts, and less excess
  step : (a b : ℕ → ℕ) (v : Move n same a b) →
      ((g : ℕ) → g < n → group_count n same (moved v.from v.to a) g ≡ group_count n same a g)
      × (excess n (moved v.from v.to a) b < excess n a b)
  step a b v =
      let c : ℕ → ℕ = moved v.from v.to a in
      given (moved_is a v.from v.to (omega (arith, v.many))) λ e. (
        counts_moved a c v.from v.to v.leaves v.lands v.together (λ x _. e x),
        less_excess n same a b c v (λ x _. e x),
      )

  -- with more fuel than there is excess
  bag_within :
      (marking : ℕ → ℕ) (fuel : ℕ) (c : ℕ → ℕ) →
      ((g : ℕ) → g < n → group_count n same c g ≤ group_count n same marking g) →
      excess n c marking < fuel →
      (b : ℕ → ℕ) × ((x : ℕ) → x < n → b x ≤ marking x) × ((g : ℕ) → g < n → group_count n same b g ≡ group_count n same c g)
  bag_within marking zero c h d = absurd (omega arith)
  bag_within marking (suc fuel) c h d =
      elim (find_move c marking h) [
        | inr f ↦ (c, f, λ g _. refl)
        | inl v ↦
            given (step c marking v) λ k.
            given (bag_within marking fuel (moved v.from v.to c) (λ g l. omega (arith, k.0 g l, h g l)) (omega (arith, k.1))) λ b.
            (b.0, b.1, λ g l. b.2 g l ∙ k.0 g l)
      ]

  -- where each group has tokens enough, there is a bag within the marking with these counts
  pub sub_bag :
      (marking c : ℕ → ℕ) →
      ((g : ℕ) → g < n → group_count n same c g ≤ group_count n same marking g) →
      (b : ℕ → ℕ) × ((x : ℕ) → x < n → b x ≤ marking x) × ((g : ℕ) → g < n → group_count n same b g ≡ group_count n same c g)
  sub_bag marking c h = bag_within marking (suc (excess n c marking)) c h (omega arith)

module _ (m : Model) (r : Groups) (E : Equivalences m r) (S : Stable m r) where
  -- with more fuel than there is excess
  exchange_to :
      (b : ℕ → ℕ) (fuel u : ℕ) →
      u < m.transitions →
      SameCounts m r (m.cause u) b →
      excess m.places (m.cause u) b < fuel →
      (v : ℕ) × (v < m.transitions) × (r.same_transition u v ≡ true) × ((x : ℕ) → x < m.places → m.cause v x ≡ b x)
  exchange_to b zero u l c d = absurd (omega arith)
  exchange_to b (suc fuel) u l c d =
      elim (find_move m.places r.same_place E.on_places (m.cause u) b (λ g k. omega (arith, c g k))) [
        | inr f ↦ (u, l, E.on_transitions.self u l, within_equal m.places r.same_place E.on_places (m.cause u) b c f)
        | inl p ↦
            given ((place_says m r p.from p.to (S.on_places p.from p.to p.leaves p.lands p.together)).there u l (omega (arith, p.many))) λ v.
            given (transition_says m r u v.0 (S.on_transitions u v.0 l v.1 v.2)) λ s.
            given (less_excess m.places r.same_place (m.cause u) b (m.cause v.0) p v.3) λ e.
            given (exchange_to b fuel v.0 v.1 (λ g k. sym (s.causes g k) ∙ c g k) (omega arith)) λ w.
            (w.0, w.1, E.on_transitions.join u v.0 w.0 l v.1 w.1 v.2 w.2, w.3)
      ]

  -- in a stable grouping a bag with the counts of u's cause is the cause of some v together with u
  pub iterated_exchange :
      (b : ℕ → ℕ) (u : ℕ) →
      u < m.transitions →
      SameCounts m r (m.cause u) b →
      (v : ℕ) × (v < m.transitions) × (r.same_transition u v ≡ true) × ((x : ℕ) → x < m.places → m.cause v x ≡ b x)
  iterated_exchange b u l c = exchange_to b (suc (excess m.places (m.cause u) b)) u l c (omega arith)
