-- The list of all arrangements of a net has each once, and is as long as their number says.
use Rattle.std.proofs.Common.{◌≡◌, ℕ, zero, suc, ◌+◌, ◌*◌, ◌<◌, ◌≤◌, Bool, true, cond, eqb, List, [], ◌∷◌, length, sym, refl, ap, ◌∙◌, subst, inl, ⊎_elim, arith}
use Rattle.std.proofs.ByRecursion.{All-get_or, All-from_get_or}
use Rattle.std.proofs.lemmas.Bool.{cases_eq, cases_lt, eq-eqb, ne_eqb}
use Rattle.finite.specs.Below.{count_below}
use Rattle.finite.specs.Products.{product_below}
use Rattle.finite.specs.Injections.{Injects, inverse}
use Rattle.finite.proofs.Counts.{count_none, count_zero, count_front}
use Rattle.finite.proofs.Injections.{without, without_other, count_next, count_stay, count_remove, count_all, count_bijects, injects_bijects}
use Rattle.net.specs.Model.{Model, Lawful}
use Rattle.arrangement.specs.Arrangements.{at}
use Rattle.arrangement.specs.Enumeration.{inserted, orders_below}
use Rattle.arrangement.specs.Laws.{In, Apart, Enumerated}
use Rattle.arrangement.proofs.Lists.{all_from_in, in_joined, in_joined_cases, apart_joined, length_joined}
use Rattle.arrangement.proofs.Insertions.{passing, times, removed, Upward, Put, inserted_put, upward_unput, inserted_upward, put_in, passing_put, inserted_number, removed_put, put_removed, inserted_apart}
use Rattle.arrangement.proofs.Counting.{having_label, ways_below, count_by_places}

-- the list has the numbers below n, each once: every test finds as many there as below n
record Full (n : ℕ) (xs : List ℕ) : Type 0 where
  same : (q : ℕ → Bool) → passing q xs ≡ count_below n q

-- how often a number is counted below a bound
count_past : (v n : ℕ) → n ≤ v → count_below n (λ x. eqb x v) ≡ 0
count_past v n h = count_zero n (λ x. eqb x v) (λ i l. ne_eqb i v (λ z. omega arith))

count_single : (v n : ℕ) → count_below n (λ x. eqb x v) ≤ 1
count_single v zero = omega (arith, count_none (λ x. eqb x v))
count_single v (suc n) = ⊎_elim
    (λ (e : n ≡ v). omega (arith, count_next n (λ x. eqb x v) (eq-eqb n v e), count_past v n (omega arith)))
    (λ e. omega (arith, count_stay n (λ x. eqb x v) (ne_eqb n v e), count_single v n))
    (cases_eq n v)

-- what holds of each list of `orders_below`
record OrderOf (f : ℕ → ℕ) (n : ℕ) (xs : List ℕ) : Type 0 where
  up : Upward f xs
  full : Full n xs

full_none : (n : ℕ) (xs : List ℕ) → Full n xs → times n xs ≡ 0
full_none n xs h = h.same (λ x. eqb x n) ∙ count_past n n (omega arith)

full_put : {n : ℕ} {xs ys : List ℕ} → Put n xs ys → Full n xs → Full (suc n) ys
unfolding passing count_below
full_put {n} r h = record { same = λ q. passing_put q r ∙ ap (λ (k : ℕ). k + cond (q n) 1 0) (h.same q) }

full_unput : {n : ℕ} {xs ys : List ℕ} → Put n xs ys → Full (suc n) ys → Full n xs
unfolding passing count_below
full_unput r h = record { same = λ q. omega (arith, passing_put q r, h.same q) }

orders_sound : (f : ℕ → ℕ) (n : ℕ) (xs : List ℕ) → In xs (orders_below n f) → OrderOf f n xs
unfolding orders_below count_below passing
orders_sound f zero xs h = ⊎_elim (λ (e : xs ≡ []). subst (OrderOf f 0) (sym e) (record { up = tt; full = record { same = λ q. refl } })) (λ z. absurd z) h
orders_sound f (suc n) xs h =
    let r = in_joined_cases (inserted f n) xs (orders_below n f) h in
    let ih = orders_sound f n r.0 r.1 in
    record { up = inserted_upward f n r.0 xs ih.up r.2; full = full_put (inserted_put f n r.0 xs r.2) ih.full }

orders_whole : (f : ℕ → ℕ) (n : ℕ) (xs : List ℕ) → Upward f xs → Full n xs → In xs (orders_below n f)
unfolding orders_below count_below passing
orders_whole f zero [] u h = inl refl
orders_whole f zero (x ∷ xs) u h = absurd (omega (arith, h.same (λ _. true)))
orders_whole f (suc n) xs u h =
    let has : 0 < times n xs = omega (arith, h.same (λ x. eqb x n), count_next n (λ x. eqb x n) (eq-eqb n n refl)) in
    let r : Put n (removed n xs) xs = put_removed n xs has in
    in_joined (inserted f n) xs (removed n xs) (orders_below n f) (orders_whole f n (removed n xs) (upward_unput f r u) (full_unput r h)) (put_in f r u)

orders_apart : (f : ℕ → ℕ) (n : ℕ) → Apart (orders_below n f)
unfolding orders_below
orders_apart f zero = ((λ z. z), tt)
orders_apart f (suc n) =
    let none : (xs : List ℕ) → In xs (orders_below n f) → times n xs ≡ 0 = λ xs h. full_none n xs (orders_sound f n xs h).full in
    apart_joined (inserted f n) (removed n) (orders_below n f) (orders_apart f n)
    (all_from_in (λ xs. Apart (inserted f n xs)) (orders_below n f) (λ xs h. inserted_apart f n xs (none xs h)))
    (all_from_in (λ xs. (ys : List ℕ) → In ys (inserted f n xs) → removed n ys ≡ xs) (orders_below n f) (λ xs h ys k. removed_put (none xs h) (inserted_put f n xs ys k)))

orders_number : (f : ℕ → ℕ) (n : ℕ) → length (orders_below n f) ≡ ways_below n f
unfolding orders_below product_below
orders_number f zero = refl
orders_number f (suc n) =
    length_joined (inserted f n) (suc (having_label f n (f n))) (orders_below n f)
    (all_from_in (λ xs. length (inserted f n xs) ≡ suc (having_label f n (f n))) (orders_below n f) (λ xs h.
    let r = orders_sound f n xs h in
    inserted_number f n xs r.up ∙ ap suc (r.full.same (λ y. eqb (f y) (f n)))))
    ∙ ap (λ (k : ℕ). k * suc (having_label f n (f n))) (orders_number f n)

-- a list's elements that pass, counted by their positions
passing_count : (q : ℕ → Bool) (xs : List ℕ) → passing q xs ≡ count_below (length xs) (λ i. q (at xs i))
unfolding passing
passing_count q [] = sym (count_none (λ i. q (at [] i)))
passing_count q (x ∷ xs) = ap (λ (k : ℕ). k + cond (q x) 1 0) (passing_count q xs) ∙ sym (count_front (length xs) (λ i. q (at (x ∷ xs) i)))

full_from_permutes : (n : ℕ) (a : List ℕ) → length a ≡ n → Injects (at a) n n → Full n a
full_from_permutes n a e inj = record {
  same = λ q. passing_count q a ∙ ap (λ (k : ℕ). count_below k (λ i. q (at a i))) e
      ∙ count_bijects (at a) (inverse (at a) n) n n (injects_bijects (at a) n inj) (λ i. q (at a i)) q (λ i l. refl);
}

full_length : (n : ℕ) (a : List ℕ) → Full n a → length a ≡ n
full_length n a h = sym (count_all (length a)) ∙ sym (passing_count (λ _. true) a) ∙ h.same (λ _. true) ∙ count_all n

full_permutes : (n : ℕ) (a : List ℕ) → Full n a → Injects (at a) n n
full_permutes n a h =
    let seen : (v : ℕ) → count_below n (λ i. eqb (at a i) v) ≡ count_below n (λ x. eqb x v) = λ v.
    sym (ap (λ (k : ℕ). count_below k (λ i. eqb (at a i) v)) (full_length n a h)) ∙ sym (passing_count (λ x. eqb x v) a) ∙ h.same (λ x. eqb x v) in
    record {
      lands = λ i l. ⊎_elim (λ (k : at a i < n). k)
          (λ (k : n ≤ at a i). absurd (omega (arith, seen (at a i), count_past (at a i) n k, count_remove n (λ j. eqb (at a j) (at a i)) i l (eq-eqb (at a i) (at a i) refl))))
          (cases_lt (at a i) n);
      apart = λ i k l m e. ⊎_elim (λ (z : i ≡ k). z)
          (λ (z : i ≡ k → ⊥).
          let q : ℕ → Bool = λ j. eqb (at a j) (at a i) in
          let r : without q i k ≡ true = without_other q i k (λ y. z (sym y)) ∙ eq-eqb (at a k) (at a i) (sym e) in
          let one : count_below n q ≡ suc (count_below n (without q i)) = count_remove n q i l (eq-eqb (at a i) (at a i) refl) in
          let two : count_below n (without q i) ≡ suc (count_below n (without (without q i) k)) = count_remove n (without q i) k m r in
          let same : count_below n q ≡ count_below n (λ x. eqb x (at a i)) = seen (at a i) in
          absurd (omega (arith, count_single (at a i) n)))
          (cases_eq i k);
    }

upward_at : (f : ℕ → ℕ) (xs : List ℕ) → Upward f xs → (i j : ℕ) → i ≤ j → j < length xs → f (at xs i) ≤ f (at xs j)
upward_at f [] u i j l m = absurd (omega arith)
upward_at f (x ∷ xs) u zero zero l m = omega arith
upward_at f (x ∷ xs) u zero (suc j) l m = All-get_or (λ y. f x ≤ f y) xs j 0 (omega arith) u.0
upward_at f (x ∷ xs) u (suc i) zero l m = absurd (omega arith)
upward_at f (x ∷ xs) u (suc i) (suc j) l m = upward_at f xs u.1 i j (omega arith) (omega arith)

upward_from : (f : ℕ → ℕ) (xs : List ℕ) → ((i j : ℕ) → i ≤ j → j < length xs → f (at xs i) ≤ f (at xs j)) → Upward f xs
upward_from f [] h = tt
upward_from f (x ∷ xs) h = (All-from_get_or (λ y. f x ≤ f y) xs 0 (λ i l. h 0 (suc i) (omega arith) (omega arith)), upward_from f xs (λ i j l m. h (suc i) (suc j) (omega arith) (omega arith)))

pub enumerated : (m : Model) → Lawful m → Enumerated m
enumerated m w =
    let f = m.place_label in
    let n = m.places in
    record {
      sound = λ a h.
          let r = orders_sound f n a h in
          let long = full_length n a r.full in
          (long, record { permutes = full_permutes n a r.full; ascends = λ i j l k. upward_at f a r.up i j l (omega arith) });
      whole = λ a e o. orders_whole f n a (upward_from f a (λ i j l k. o.ascends i j l (omega arith))) (full_from_permutes n a e o.permutes);
      once = orders_apart f n;
      number = orders_number f n ∙ sym (count_by_places m w);
    }
