-- Bags with equal counts in groups that correspond match.
use Rattle.std.proofs.Common.{◌≡◌, ℕ, zero, suc, ◌<◌, ◌≤◌, Bool, true, cond, [], ◌∷◌, refl, ap, ◌∙◌, inl, inr, arith}
use Rattle.finite.specs.Below.{sum_below}
use Rattle.finite.proofs.Given.{given}
use Rattle.finite.proofs.Tests.{same_test}
use Rattle.finite.proofs.Sums.{sum_lt}
use Rattle.finite.proofs.Searches.{find_more}
use Rattle.bisimulation.specs.Groups.{Equivalence}
use Rattle.bisimulation.specs.Rounds.{group_count}
use Rattle.bisimulation.specs.Bisimulation.{count_first, count_second, Matching}
use Rattle.bisimulation.proofs.Bags.{unit_self, counts_in, counts_zero, member_le, find_member, less, less_is, counts_less}
use Rattle.bisimulation.proofs.Matchings.{matching_counts}

module _
    (m n : ℕ) (related : ℕ → ℕ → Type 0) (old new : ℕ → ℕ → Bool)
    (E : Equivalence n new)
    (closed : (x y z : ℕ) → x < m → y < n → z < n → related x y → new y z ≡ true → related x z)
    (agree : (x x' y y' : ℕ) → x < m → x' < m → y < n → y' < n → related x y → related x' y' → old x x' ≡ new y y')
    (forth : (x : ℕ) → x < m → (y : ℕ) × (y < n) × related x y)
    (back : (y : ℕ) → y < n → (x : ℕ) × (x < m) × related x y)
  where
    abbrev Even : (ℕ → ℕ) → (ℕ → ℕ) → Type 0
    Even a b = (g h : ℕ) → g < m → h < n → related g h → group_count m old a g ≡ group_count n new b h

    none_match : (a b : ℕ → ℕ) → Even a b → ((p : ℕ) → p < m → a p ≤ 0) → Matching m n related a b
    unfolding count_first count_second
    none_match a b even none =
        record {
          pairs = [];
          paired = tt;
          firsts = λ p l. omega (arith, none p l);
          seconds =
              λ q l.
              given (back q l) λ p.
              omega (
                arith,
                even p.0 q p.1 l p.2,
                counts_zero m old a p.0 (λ x k. omega (arith, none x k)),
                member_le n new b q q l (E.self q l),
              );
        }

    -- a pair of related places with tokens
    pair_found : (a b : ℕ → ℕ) → Even a b → (p : ℕ) → p < m → 0 < a p → (q : ℕ) × (q < n) × related p q × (0 < b q)
    pair_found a b even p l h =
        given (forth p l) λ y.
        given (find_member n new (λ _. 0) b y.0 (omega (
          arith,
          counts_zero n new (λ _. 0) y.0 (λ _ _. refl),
          even p y.0 l y.1 y.2,
          member_le m old a p p l (agree p p y.0 y.0 l l y.1 y.1 y.2 y.2 ∙ E.self y.0 y.1),
        ))) λ q.
        (q.0, q.1, closed p y.0 q.0 l y.1 q.1 y.2 (E.turn q.0 y.0 q.1 y.1 q.2), q.3)

    -- without one pair the counts stay equal
    even_less : (a b : ℕ → ℕ) → Even a b → (p q : ℕ) → p < m → q < n → related p q → 0 < a p → 0 < b q → Even (less p a) (less q b)
    even_less a b even p q i j r s t g h k l e =
        let c : ◌≡◌ {A = ℕ} (cond (old p g) 1 0) (cond (new q h) 1 0) = ap (λ v. cond v 1 0) (agree p g q h i k j l r e) in
        omega (arith, even g h k l e, counts_less m old a p g i s, counts_less n new b q h j t)

    -- with more fuel than there are tokens
    match_to : (fuel : ℕ) (a b : ℕ → ℕ) → Even a b → sum_below m a < fuel → Matching m n related a b
    unfolding count_first count_second
    match_to zero a b even d = absurd (omega arith)
    match_to (suc fuel) a b even d =
        elim (find_more m a (λ _. 0)) [
          | inr none ↦ none_match a b even none
          | inl p ↦
              given (pair_found a b even p.0 p.1 p.2) λ q.
              given (less_is a p.0 p.2) λ e.
              given (sum_lt m (less p.0 a) a (λ x _. omega (arith, e x)) p.0 p.1 (omega (arith, e p.0, unit_self p.0))) λ k.
              given (match_to fuel (less p.0 a) (less q.0 b) (even_less a b even p.0 q.0 p.1 q.1 q.2 p.2 q.3) (omega arith)) λ w.
              record {
                pairs = (p.0, q.0) ∷ w.pairs;
                paired = (p.1, q.1, q.2, w.paired);
                firsts = λ z l. omega (arith, w.firsts z l, e z);
                seconds = λ z l. omega (arith, w.seconds z l, less_is b q.0 q.3 z);
              }
        ]

    pub counts_match : (a b : ℕ → ℕ) → Even a b → Matching m n related a b
    counts_match a b even = match_to (suc (sum_below m a)) a b even (omega arith)

module _ (n : ℕ) (same : ℕ → ℕ → Bool) (E : Equivalence n same) where
  -- two tests of one group answer alike
  pub same_group :
      (x x' y y' : ℕ) → x < n → x' < n → y < n → y' < n → same x y ≡ true → same x' y' ≡ true → same x x' ≡ same y y'
  same_group x x' y y' i i' j j' r r' =
      same_test _ _ (λ t. E.join y x y' j i j' (E.turn x y i j r) (E.join x x' y' i i' j' t r'))
      (λ t. E.join x y x' i j i' r (E.join y y' x' j j' i' t (E.turn x' y' i' j' r')))

  -- a group has one count, whichever of it stands for it
  pub counts_along : (a : ℕ → ℕ) (g h : ℕ) → g < n → h < n → same g h ≡ true → group_count n same a g ≡ group_count n same a h
  counts_along a g h i j r = counts_in n same same a g h (λ k l. same_group k g k h l i l j (E.self k l) r)

  -- within one net, bags match if and only if they have equal counts
  pub group_counts_match :
      (a b : ℕ → ℕ) → ((g : ℕ) → g < n → group_count n same a g ≡ group_count n same b g) → Matching n n (λ x y. same x y ≡ true) a b
  group_counts_match a b c =
      counts_match n n (λ x y. same x y ≡ true) same same E (λ x y z i j k r s. E.join x y z i j k r s) same_group
      (λ x l. (x, l, E.self x l)) (λ x l. (x, l, E.self x l)) a b
      (λ g h i j r. c g i ∙ counts_along b g h i j r)

  pub match_counts :
      (a b : ℕ → ℕ) → Matching n n (λ x y. same x y ≡ true) a b → (g : ℕ) → g < n → group_count n same a g ≡ group_count n same b g
  match_counts a b w g l = matching_counts n n _ a b w same same g g (λ x y i j s. same_group x g y g i l j l s (E.self g l))
