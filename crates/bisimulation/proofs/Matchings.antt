-- Bags that match: the other way round, with a pair taken out, and group by group.
use Rattle.std.proofs.Common.{◌≡◌, ℕ, ◌+◌, ◌<◌, Bool, cond, List, [], ◌∷◌, sym, refl, ap, ◌∙◌, ap₂, inl, inr, arith}
use Rattle.net.specs.Model.{Model}
use Rattle.bisimulation.specs.Rounds.{unit, group_count}
use Rattle.bisimulation.specs.Bisimulation.{count_first, count_second, AllPaired, Matching, Bisimulation}
use Rattle.bisimulation.proofs.Bags.{unit_at, counts_same, counts_zero, counts_add, counts_unit}

turned : List (ℕ × ℕ) → List (ℕ × ℕ)
turned [] = []
turned (x ∷ xs) = (x.1, x.0) ∷ turned xs

turned_first : (p : ℕ) (xs : List (ℕ × ℕ)) → count_first p (turned xs) ≡ count_second p xs
unfolding turned count_first count_second
turned_first p [] = refl
turned_first p (x ∷ xs) = ap (λ n. unit x.1 p + n) (turned_first p xs)

turned_second : (p : ℕ) (xs : List (ℕ × ℕ)) → count_second p (turned xs) ≡ count_first p xs
unfolding turned count_first count_second
turned_second p [] = refl
turned_second p (x ∷ xs) = ap (λ n. unit x.0 p + n) (turned_second p xs)

turned_paired : (m n : ℕ) (related : ℕ → ℕ → Type 0) (xs : List (ℕ × ℕ)) → AllPaired m n related xs → AllPaired n m (λ x y. related y x) (turned xs)
unfolding turned
turned_paired m n related [] a = tt
turned_paired m n related (x ∷ xs) a = (a.1, a.0, a.2, turned_paired m n related xs a.3)

pub matching_back : (m n : ℕ) (related : ℕ → ℕ → Type 0) (a b : ℕ → ℕ) → Matching m n related a b → Matching n m (λ x y. related y x) b a
matching_back m n related a b h =
    record {
      pairs = turned h.pairs;
      paired = turned_paired m n related h.pairs h.paired;
      firsts = λ p l. turned_first p h.pairs ∙ h.seconds p l;
      seconds = λ q l. turned_second q h.pairs ∙ h.firsts q l;
    }

pub bisimulation_back : (m n : Model) (place transition : ℕ → ℕ → Type 0) → Bisimulation m n place transition → Bisimulation n m (λ x y. place y x) (λ x y. transition y x)
bisimulation_back m n place transition B =
    record {
      place_forth = B.place_back;
      place_back = B.place_forth;
      transition_forth = B.transition_back;
      transition_back = B.transition_forth;
      place_labels = λ p q i j r. sym (B.place_labels q p j i r);
      transition_labels = λ t u i j r. sym (B.transition_labels u t j i r);
      causes = λ t u i j r. matching_back _ _ _ _ _ (B.causes u t j i r);
      effects = λ t u i j r. matching_back _ _ _ _ _ (B.effects u t j i r);
      forth = λ t b i h. B.back t b i (matching_back _ _ _ _ _ h);
      back = λ u a i h. B.forth u a i (matching_back _ _ _ _ _ h);
    }

-- what is left when a pair with q as its second is taken out
pub record Taken (m n : ℕ) (related : ℕ → ℕ → Type 0) (xs : List (ℕ × ℕ)) (q : ℕ) : Type 0 where
  pub rest : List (ℕ × ℕ)
  pub paired : AllPaired m n related rest
  pub seconds : (z : ℕ) → count_second z xs ≡ unit q z + count_second z rest

pub take_out : (m n : ℕ) (related : ℕ → ℕ → Type 0) (xs : List (ℕ × ℕ)) (q : ℕ) → AllPaired m n related xs → 0 < count_second q xs → Taken m n related xs q
unfolding count_second
take_out m n related [] q a h = absurd (omega arith)
take_out m n related (x ∷ xs) q a h =
    elim (unit_at x.1 q) [
      | inl e ↦ record { rest = xs; paired = a.3; seconds = λ z. ap (λ y. unit y z + count_second z xs) e.0 }
      | inr e ↦
          let r = take_out m n related xs q a.3 (omega arith) in
          record { rest = x ∷ r.rest; paired = (a.0, a.1, a.2, r.paired); seconds = λ z. omega (arith, r.seconds z) }
    ]

-- the pairs of a list have as many firsts in one group as seconds in the other
pairs_even :
    (m n : ℕ) (related : ℕ → ℕ → Type 0) (same other : ℕ → ℕ → Bool) (g h : ℕ) →
    ((x y : ℕ) → x < m → y < n → related x y → same x g ≡ other y h) →
    (xs : List (ℕ × ℕ)) →
    AllPaired m n related xs →
    group_count m same (λ p. count_first p xs) g ≡ group_count n other (λ q. count_second q xs) h
unfolding count_first count_second
pairs_even m n related same other g h f [] a = counts_zero m same _ g (λ _ _. refl) ∙ sym (counts_zero n other _ h (λ _ _. refl))
pairs_even m n related same other g h f (x ∷ xs) a =
    counts_add m same (unit x.0) (λ p. count_first p xs) g
    ∙ ap₂ (λ j k. j + k)
    (counts_unit m same x.0 g a.0 ∙ ap (λ t. cond t 1 0) (f x.0 x.1 a.0 a.1 a.2) ∙ sym (counts_unit n other x.1 h a.1))
    (pairs_even m n related same other g h f xs a.3)
    ∙ sym (counts_add n other (unit x.1) (λ q. count_second q xs) h)

-- bags that match have as many tokens in groups that correspond
pub matching_counts :
    (m n : ℕ) (related : ℕ → ℕ → Type 0) (a b : ℕ → ℕ) →
    Matching m n related a b →
    (same other : ℕ → ℕ → Bool) (g h : ℕ) →
    ((x y : ℕ) → x < m → y < n → related x y → same x g ≡ other y h) →
    group_count m same a g ≡ group_count n other b h
matching_counts m n related a b w same other g h f =
    sym (counts_same m same (λ p. count_first p w.pairs) a g w.firsts)
    ∙ pairs_even m n related same other g h f w.pairs w.paired
    ∙ counts_same n other (λ q. count_second q w.pairs) b h w.seconds
