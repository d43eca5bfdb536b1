-- Counts and sums under an injective map, the pigeonhole principle, and inverses.
use Rattle.std.proofs.Common.{◌≡◌, ℕ, zero, suc, ◌+◌, ◌<◌, ◌≤◌, Bool, true, false, cond, not, ◌&&◌, eqb, ◌⊎◌, sym, refl, ap, ◌∙◌, subst, inl, inr, ⊎_elim, add-one, arith}
use Rattle.std.proofs.lemmas.Bool.{cases_eq, eqb-true, eq-eqb, ne_eqb, eqb-false, not_from_true, and_right, cond-true, cond-false}
use Rattle.finite.specs.Below.{sum_below, count_below, first_below}
use Rattle.finite.specs.Injections.{Injects, Bijects, inverse}
use Rattle.finite.proofs.Sums.{sum_same, sum_add, sum_one}
use Rattle.finite.proofs.Counts.{count_none, count_yes, count_no, count_same}
use Rattle.finite.proofs.Searches.{Found, first_cases, first_finds}

-- the steps of a count, at the next number
pub count_next : (n : ℕ) (f : ℕ → Bool) → f n ≡ true → count_below (suc n) f ≡ suc (count_below n f)
count_next n f h = ap (λ (k : ℕ). count_below k f) (sym (add-one n)) ∙ count_yes n f h ∙ add-one (count_below n f)

pub count_stay : (n : ℕ) (f : ℕ → Bool) → f n ≡ false → count_below (suc n) f ≡ count_below n f
count_stay n f h = ap (λ (k : ℕ). count_below k f) (sym (add-one n)) ∙ count_no n f h

-- the test q, but j fails it
abbrev pub without : (ℕ → Bool) → ℕ → ℕ → Bool
without q j k = q k && not (eqb k j)

pub without_other : (q : ℕ → Bool) (j k : ℕ) → (k ≡ j → ⊥) → without q j k ≡ q k
without_other q j k h = rw (ne_eqb k j h) (and_true (q k))
  where
    and_true : (b : Bool) → (b && true) ≡ b
    and_true true = refl
    and_true false = refl

without_self : (q : ℕ → Bool) (j : ℕ) → without q j j ≡ false
without_self q j = and_right (q j) (not (eqb j j)) (not_from_true (eqb j j) (eq-eqb j j refl))

-- one that passes is one of those counted
pub count_remove : (m : ℕ) (q : ℕ → Bool) (j : ℕ) → j < m → q j ≡ true → count_below m q ≡ suc (count_below m (without q j))
count_remove zero q j l h = absurd (omega arith)
count_remove (suc m) q j l h = step (cases_eq j m) (count_remove m q j)
  where
    step : (j ≡ m) ⊎ (j ≡ m → ⊥) → (j < m → q j ≡ true → count_below m q ≡ suc (count_below m (without q j))) → count_below (suc m) q ≡ suc (count_below (suc m) (without q j))
    step (inl e) ih =
        let same : count_below m (without q j) ≡ count_below m q = count_same m (without q j) q (λ i k. without_other q j i (λ z. omega arith)) in
        let gone : count_below (suc m) (without q j) ≡ count_below m (without q j) = count_stay m (without q j) (subst (λ x. without q j x ≡ false) e (without_self q j)) in
        let here : count_below (suc m) q ≡ suc (count_below m q) = count_next m q (subst (λ x. q x ≡ true) e h) in
        omega arith
    step (inr e) ih = last (q m) refl
      where
        last : (b : Bool) → q m ≡ b → count_below (suc m) q ≡ suc (count_below (suc m) (without q j))
        last true y =
            let a : count_below (suc m) q ≡ suc (count_below m q) = count_next m q y in
            let b : count_below (suc m) (without q j) ≡ suc (count_below m (without q j)) = count_next m (without q j) (without_other q j m (λ z. e (sym z)) ∙ y) in
            let i : count_below m q ≡ suc (count_below m (without q j)) = ih (omega arith) h in
            omega arith
        last false y =
            let a : count_below (suc m) q ≡ count_below m q = count_stay m q y in
            let b : count_below (suc m) (without q j) ≡ count_below m (without q j) = count_stay m (without q j) (without_other q j m (λ z. e (sym z)) ∙ y) in
            let i : count_below m q ≡ suc (count_below m (without q j)) = ih (omega arith) h in
            omega arith

-- an injective map from those that pass p to those that pass q
pub count_injects : (f : ℕ → ℕ) (p q : ℕ → Bool) (n m : ℕ) → Injects f n m → ((i : ℕ) → i < n → p i ≡ true → q (f i) ≡ true) → count_below n p ≤ count_below m q
count_injects f p q zero m inj h = rw (count_none p) (omega arith)
count_injects f p q (suc n) m inj h = step (p n) refl (λ r. count_injects f p r n m (record { lands = λ i l. inj.lands i (omega arith); apart = λ i k l s. inj.apart i k (omega arith) (omega arith) }))
  where
    step : (b : Bool) → p n ≡ b → ((r : ℕ → Bool) → ((i : ℕ) → i < n → p i ≡ true → r (f i) ≡ true) → count_below n p ≤ count_below m r) → count_below (suc n) p ≤ count_below m q
    step true y ih =
        let a : count_below (suc n) p ≡ suc (count_below n p) = count_next n p y in
        let b : count_below m q ≡ suc (count_below m (without q (f n))) = count_remove m q (f n) (inj.lands n (omega arith)) (h n (omega arith) y) in
        let c : count_below n p ≤ count_below m (without q (f n)) = ih (without q (f n)) (λ i l t. without_other q (f n) (f i) (λ e. let z : i ≡ n = inj.apart i n (omega arith) (omega arith) e in omega arith) ∙ h i (omega arith) t) in
        omega arith
    step false y ih =
        let a : count_below (suc n) p ≡ count_below n p = count_stay n p y in
        let c : count_below n p ≤ count_below m q = ih q (λ i l t. h i (omega arith) t) in
        omega arith

pub count_all : (n : ℕ) → count_below n (λ _. true) ≡ n
count_all zero = count_none (λ _. true)
count_all (suc n) = count_next n (λ _. true) refl ∙ ap suc (count_all n)

-- an injective map needs room
pub injects_le : (f : ℕ → ℕ) (n m : ℕ) → Injects f n m → n ≤ m
injects_le f n m inj = let a = count_injects f (λ _. true) (λ _. true) n m inj (λ i l t. refl) in omega (arith, count_all n, count_all m)

-- pigeonhole: an injective map of the numbers below n to themselves reaches each
pub onto : (f : ℕ → ℕ) (n : ℕ) → Injects f n n → (j : ℕ) → j < n → (i : ℕ) × (i < n) × (f i ≡ j)
onto f n inj j l = ⊎_elim
    (λ (r : Found n (λ i. eqb (f i) j) (first_below n (λ i. eqb (f i) j))). (inverse f n j, r.lands, eqb-true (f (inverse f n j)) j r.passes))
    (λ r.
    let a : count_below n (λ _. true) ≤ count_below n (without (λ _. true) j) = count_injects f (λ _. true) (without (λ _. true) j) n n inj (λ i k t. without_other (λ _. true) j (f i) (eqb-false (f i) j (r.1 i k))) in
    let b : count_below n (λ _. true) ≡ suc (count_below n (without (λ _. true) j)) = count_remove n (λ _. true) j l refl in
    absurd (omega arith))
    (first_cases n (λ i. eqb (f i) j))

pub inverse_lands : (f : ℕ → ℕ) (n : ℕ) → Injects f n n → (j : ℕ) → j < n → inverse f n j < n
inverse_lands f n inj j l = let r = onto f n inj j l in (first_finds n (λ i. eqb (f i) j) r.0 r.1 (eq-eqb _ _ r.2)).lands

pub inverse_right : (f : ℕ → ℕ) (n : ℕ) → Injects f n n → (j : ℕ) → j < n → f (inverse f n j) ≡ j
inverse_right f n inj j l = let r = onto f n inj j l in eqb-true _ _ (first_finds n (λ i. eqb (f i) j) r.0 r.1 (eq-eqb _ _ r.2)).passes

pub inverse_left : (f : ℕ → ℕ) (n : ℕ) → Injects f n n → (i : ℕ) → i < n → inverse f n (f i) ≡ i
inverse_left f n inj i l = inj.apart (inverse f n (f i)) i (inverse_lands f n inj (f i) (inj.lands i l)) l (inverse_right f n inj (f i) (inj.lands i l))

pub bijects_injects : (f g : ℕ → ℕ) (n m : ℕ) → Bijects f g n m → Injects f n m
bijects_injects f g n m b = record { lands = b.lands; apart = λ i k l s e. sym (b.left i l) ∙ ap g e ∙ b.left k s }

pub injects_bijects : (f : ℕ → ℕ) (n : ℕ) → Injects f n n → Bijects f (inverse f n) n n
injects_bijects f n i = record { lands = i.lands; returns = inverse_lands f n i; left = inverse_left f n i; right = inverse_right f n i }

pub bijects_back : (f g : ℕ → ℕ) (n m : ℕ) → Bijects f g n m → Bijects g f m n
bijects_back f g n m b = record { lands = b.returns; returns = b.lands; left = b.right; right = b.left }

pub bijects_size : (f g : ℕ → ℕ) (n m : ℕ) → Bijects f g n m → n ≡ m
bijects_size f g n m b =
    let x : n ≤ m = injects_le f n m (bijects_injects f g n m b) in
    let y : m ≤ n = injects_le g m n (bijects_injects g f m n (bijects_back f g n m b)) in
    omega arith

-- a count does not change under a bijection that keeps the test
pub count_bijects : (f g : ℕ → ℕ) (n m : ℕ) → Bijects f g n m → (p q : ℕ → Bool) → ((i : ℕ) → i < n → q (f i) ≡ p i) → count_below n p ≡ count_below m q
count_bijects f g n m b p q h =
    let x : count_below n p ≤ count_below m q = count_injects f p q n m (bijects_injects f g n m b) (λ i l t. h i l ∙ t) in
    let y : count_below m q ≤ count_below n p = count_injects g q p m n (bijects_injects g f m n (bijects_back f g n m b)) (λ j l t. sym (h (g j) (b.returns j l)) ∙ ap q (b.right j l) ∙ t) in
    omega arith

-- one term, and the rest
sum_rest : (m : ℕ) (w : ℕ → ℕ) (j : ℕ) → j < m → sum_below m w ≡ sum_below m (λ p. cond (eqb p j) 0 (w p)) + w j
sum_rest m w j l =
    sum_same m w (λ p. cond (eqb p j) 0 (w p) + cond (eqb p j) (w p) 0) (λ p k. split (eqb p j) (w p))
    ∙ sum_add m (λ p. cond (eqb p j) 0 (w p)) (λ p. cond (eqb p j) (w p) 0)
    ∙ ap (λ (k : ℕ). sum_below m (λ p. cond (eqb p j) 0 (w p)) + k)
    (sum_one m (λ p. cond (eqb p j) (w p) 0) j l (λ p k z. cond-false (eqb p j) (w p) 0 (ne_eqb p j z)) ∙ cond-true (eqb j j) (w j) 0 (eq-eqb j j refl))
  where
    split : (b : Bool) (x : ℕ) → x ≡ cond b 0 x + cond b x 0
    split true x = omega arith
    split false x = omega arith

-- terms taken along an injective map
pub sum_injects : (f : ℕ → ℕ) (n m : ℕ) (w : ℕ → ℕ) → Injects f n m → sum_below n (λ i. w (f i)) ≤ sum_below m w
unfolding sum_below
sum_injects f zero m w inj = omega arith
sum_injects f (suc n) m w inj =
    let rest : ℕ → ℕ = λ p. cond (eqb p (f n)) 0 (w p) in
    let same : sum_below n (λ i. w (f i)) ≡ sum_below n (λ i. rest (f i)) = sum_same n _ _ (λ i l.
    sym (cond-false (eqb (f i) (f n)) 0 (w (f i)) (ne_eqb (f i) (f n) (λ e. let z : i ≡ n = inj.apart i n (omega arith) (omega arith) e in omega arith)))) in
    omega (
      arith,
      sum_rest m w (f n) (inj.lands n (omega arith)),
      sum_injects f n m rest (record { lands = λ i l. inj.lands i (omega arith); apart = λ i k l s. inj.apart i k (omega arith) (omega arith) }),
    )
