-- Sums over the numbers below n.
use Rattle.std.proofs.Common.{◌≡◌, ℕ, zero, suc, ◌+◌, ◌*◌, ◌<◌, ◌≤◌, List, length, get_or, take, sum, sym, refl, ap, ◌∙◌, inl, inr, ⊎_elim, add-one, arith}
use Rattle.std.proofs.lemmas.List.{take_all}
use Rattle.std.proofs.lemmas.List.Sums.{sum_by_more}
use Rattle.std.proofs.lemmas.Bool.{cases_eq}
use Rattle.finite.specs.Below.{sum_below}

pub sum_none : (f : ℕ → ℕ) → sum_below 0 f ≡ 0
unfolding sum_below
sum_none f = refl

pub sum_more : (n : ℕ) (f : ℕ → ℕ) → sum_below (n + 1) f ≡ sum_below n f + f n
unfolding sum_below
sum_more n f = rw add-one refl

pub sum_same : (n : ℕ) (f g : ℕ → ℕ) → ((i : ℕ) → i < n → f i ≡ g i) → sum_below n f ≡ sum_below n g
unfolding sum_below
sum_same zero f g h = refl
sum_same (suc n) f g h = omega (arith, sum_same n f g (λ i l. h i (omega arith)), h n (omega arith))

pub sum_zero : (n : ℕ) (f : ℕ → ℕ) → ((i : ℕ) → i < n → f i ≡ 0) → sum_below n f ≡ 0
unfolding sum_below
sum_zero zero f h = refl
sum_zero (suc n) f h = omega (arith, sum_zero n f (λ i l. h i (omega arith)), h n (omega arith))

pub sum_add : (n : ℕ) (f g : ℕ → ℕ) → sum_below n (λ i. f i + g i) ≡ sum_below n f + sum_below n g
unfolding sum_below
sum_add zero f g = refl
sum_add (suc n) f g = omega (arith, sum_add n f g)

pub sum_le : (n : ℕ) (f g : ℕ → ℕ) → ((i : ℕ) → i < n → f i ≤ g i) → sum_below n f ≤ sum_below n g
unfolding sum_below
sum_le zero f g h = omega arith
sum_le (suc n) f g h = omega (arith, sum_le n f g (λ i l. h i (omega arith)), h n (omega arith))

pub sum_lt : (n : ℕ) (f g : ℕ → ℕ) → ((i : ℕ) → i < n → f i ≤ g i) → (j : ℕ) → j < n → f j < g j → sum_below n f < sum_below n g
unfolding sum_below
sum_lt zero f g h j l s = absurd (omega arith)
sum_lt (suc n) f g h j l s =
    elim (cases_eq j n) [
      | inl e ↦ omega (arith, sum_le n f g (λ i l. h i (omega arith)), rw e at s)
      | inr e ↦ omega (arith, sum_lt n f g (λ i l. h i (omega arith)) j (omega arith) s, h n (omega arith))
    ]

pub sum_most : (n k : ℕ) (f : ℕ → ℕ) → ((i : ℕ) → i < n → f i ≤ k) → sum_below n f ≤ n * k
unfolding sum_below
sum_most zero k f h = omega arith
sum_most (suc n) k f h = omega (arith, sum_most n k f (λ i l. h i (omega arith)), h n (omega arith))

-- a sum with one term
pub sum_one : (n : ℕ) (f : ℕ → ℕ) (j : ℕ) → j < n → ((i : ℕ) → i < n → (i ≡ j → ⊥) → f i ≡ 0) → sum_below n f ≡ f j
unfolding sum_below
sum_one zero f j l h = absurd (omega arith)
sum_one (suc n) f j l h =
    elim (cases_eq j n) [
      | inl e ↦ omega (arith, sum_zero n f (λ i l. h i (omega arith) (λ s. omega arith)), ap f e)
      | inr e ↦ omega (arith, sum_one n f j (omega arith) (λ i l s. h i (omega arith) s), h n (omega arith) (λ s. e (sym s)))
    ]

-- a table's sum, by its rows and by its columns
pub sum_turned : (n k : ℕ) (f : ℕ → ℕ → ℕ) → sum_below n (λ i. sum_below k (f i)) ≡ sum_below k (λ j. sum_below n (λ i. f i j))
unfolding sum_below
sum_turned zero k f = sym (sum_zero k (λ _. 0) (λ _ _. refl))
sum_turned (suc n) k f =
    ap (λ (x : ℕ). x + sum_below k (f n)) (sum_turned n k f) ∙ sym (sum_add k (λ j. sum_below n (λ i. f i j)) (f n))

-- a term is at most the sum
pub term_le : (n : ℕ) (f : ℕ → ℕ) (i : ℕ) → i < n → f i ≤ sum_below n f
unfolding sum_below
term_le zero f i l = absurd (omega arith)
term_le (suc n) f i l = ⊎_elim (λ (e : i ≡ n). omega (arith, ap f e)) (λ (e : i ≡ n → ⊥). omega (arith, term_le n f i (omega arith))) (cases_eq i n)

-- terms past n that are 0 do not count
pub sum_further : (n k : ℕ) (f : ℕ → ℕ) → n ≤ k → ((i : ℕ) → n ≤ i → f i ≡ 0) → sum_below k f ≡ sum_below n f
unfolding sum_below
sum_further n zero f l h = let e : zero ≡ n = omega arith in ap (λ (i : ℕ). sum_below i f) e
sum_further n (suc k) f l h = ⊎_elim
    (λ (e : n ≡ suc k). ap (λ (i : ℕ). sum_below i f) (sym e))
    (λ (e : n ≡ suc k → ⊥). omega (arith, sum_further n k f (omega arith) h, h k (omega arith)))
    (cases_eq n (suc k))

-- the sum of the front of a list, by its places
front_sum : (xs : List ℕ) (i : ℕ) → i ≤ length xs → sum (take i xs) ≡ sum_below i (λ k. get_or xs k 0)
unfolding sum_below
front_sum xs zero l = refl
front_sum xs (suc i) l =
    ap (λ (k : ℕ). sum (take k xs)) (sym (add-one i)) ∙ sum_by_more (λ (x : ℕ). x) xs i 0 (omega arith)
    ∙ ap (λ (s : ℕ). s + get_or xs i 0) (front_sum xs i (omega arith))

-- the sum of a list, by its places
pub list_sum : (xs : List ℕ) → sum xs ≡ sum_below (length xs) (λ k. get_or xs k 0)
list_sum xs = ap sum (sym (take_all (length xs) xs (omega arith))) ∙ front_sum xs (length xs) (omega arith)

-- the sum of a list that holds f, where f is 0 from n on
pub list_sum_of : (xs : List ℕ) (n : ℕ) (f : ℕ → ℕ) → n ≤ length xs → ((k : ℕ) → get_or xs k 0 ≡ f k) →
    ((k : ℕ) → n ≤ k → f k ≡ 0) → sum xs ≡ sum_below n f
list_sum_of xs n f l reads past =
    list_sum xs ∙ sum_same (length xs) (λ k. get_or xs k 0) f (λ k _. reads k) ∙ sum_further n (length xs) f l past
