-- Lists with one number put in, and that number taken out again.
use Rattle.std.proofs.Common.{◌≡◌, ℕ, suc, ◌+◌, ◌<◌, ◌≤◌, Bool, false, cond, eqb, leb, ◌⊎◌, List, [], ◌∷◌, map, length, sym, refl, ap, ◌∙◌, subst, inl, inr, ⊎_elim, arith}
use Rattle.std.specs.List.{AllByRecursion}
use Rattle.std.proofs.lemmas.List.{length-map}
use Rattle.std.proofs.ByRecursion.{All-weaker}
use Rattle.std.proofs.lemmas.Bool.{cases_eq, cases_order, eq-eqb, ne_eqb, le-leb, lt-leb, leb-true, cond-true, cond-false}
use Rattle.arrangement.specs.Enumeration.{inserted}
use Rattle.arrangement.specs.Laws.{In, Apart}
use Rattle.arrangement.proofs.Lists.{in_left, in_right, in_append, in_cond, in_cond_from, apart_cond, apart_append, in_map, in_map_cases, apart_map}

-- how many elements pass q
unfoldable pub passing : (ℕ → Bool) → List ℕ → ℕ
passing q [] = 0
passing q (x ∷ xs) = passing q xs + cond (q x) 1 0

-- how often p stands in the list
abbrev pub times : ℕ → List ℕ → ℕ
times p xs = passing (λ x. eqb x p) xs

-- the list without the first p
unfoldable pub removed : ℕ → List ℕ → List ℕ
removed p [] = []
removed p (x ∷ xs) = cond (eqb x p) xs (x ∷ removed p xs)

-- f does not fall along the list
abbrev pub Upward : (ℕ → ℕ) → List ℕ → Type 0
Upward f [] = Unit {0}
Upward f (x ∷ xs) = AllByRecursion (λ y. f x ≤ f y) xs × Upward f xs

-- ys is xs with p put in at one place
pub data Put (p : ℕ) : List ℕ → List ℕ → Type 0 where
  here : {xs : List ℕ} → Put p xs (p ∷ xs)
  there : {x : ℕ} {xs ys : List ℕ} → Put p xs ys → Put p (x ∷ xs) (x ∷ ys)

-- the two ways in which ys is x ∷ xs with p put in: before x, or behind it
abbrev Either : (ℕ → ℕ) → ℕ → ℕ → List ℕ → List ℕ → Type 0
Either f p x xs ys = ((f p ≤ f x) × (ys ≡ (p ∷ (x ∷ xs)))) ⊎ ((f x ≤ f p) × ((zs : List ℕ) × In zs (inserted f p xs) × (ys ≡ (x ∷ zs))))

inserted_cases : (f : ℕ → ℕ) (p x : ℕ) (xs ys : List ℕ) → In ys (inserted f p (x ∷ xs)) → Either f p x xs ys
unfolding inserted
inserted_cases f p x xs ys h =
    ⊎_elim
    (λ k. let r = in_cond (leb (f p) (f x)) ys ((p ∷ (x ∷ xs)) ∷ []) k in inl (leb-true _ _ r.0, ⊎_elim (λ e. e) (λ z. absurd z) r.1))
    (λ k. let r = in_cond (leb (f x) (f p)) ys (map (◌∷◌ x) (inserted f p xs)) k in inr (leb-true _ _ r.0, in_map_cases (◌∷◌ x) ys (inserted f p xs) r.1))
    (in_append ys (cond (leb (f p) (f x)) ((p ∷ (x ∷ xs)) ∷ []) []) (cond (leb (f x) (f p)) (map (◌∷◌ x) (inserted f p xs)) []) h)

inserted_front : (f : ℕ → ℕ) (p x : ℕ) (xs : List ℕ) → f p ≤ f x → In (p ∷ (x ∷ xs)) (inserted f p (x ∷ xs))
unfolding inserted
inserted_front f p x xs h =
    in_left _ (cond (leb (f p) (f x)) ((p ∷ (x ∷ xs)) ∷ []) []) _ (in_cond_from (leb (f p) (f x)) _ ((p ∷ (x ∷ xs)) ∷ []) (le-leb _ _ h) (inl refl))

inserted_later : (f : ℕ → ℕ) (p x : ℕ) (xs zs : List ℕ) → f x ≤ f p → In zs (inserted f p xs) → In (x ∷ zs) (inserted f p (x ∷ xs))
unfolding inserted
inserted_later f p x xs zs h k =
    in_right _ (cond (leb (f p) (f x)) ((p ∷ (x ∷ xs)) ∷ []) []) (cond (leb (f x) (f p)) (map (◌∷◌ x) (inserted f p xs)) [])
    (in_cond_from (leb (f x) (f p)) _ (map (◌∷◌ x) (inserted f p xs)) (le-leb _ _ h) (in_map (◌∷◌ x) zs (inserted f p xs) k))

pub inserted_put : (f : ℕ → ℕ) (p : ℕ) (xs ys : List ℕ) → In ys (inserted f p xs) → Put p xs ys
unfolding inserted
inserted_put f p [] ys h = ⊎_elim (λ (e : ys ≡ (p ∷ [])). subst (Put p []) (sym e) here) (λ z. absurd z) h
inserted_put f p (x ∷ xs) ys h = step (inserted_put f p xs) (inserted_cases f p x xs ys h)
  where
    step : ((zs : List ℕ) → In zs (inserted f p xs) → Put p xs zs) → Either f p x xs ys → Put p (x ∷ xs) ys
    step ih (inl r) = subst (Put p (x ∷ xs)) (sym r.1) here
    step ih (inr r) = subst (Put p (x ∷ xs)) (sym r.1.2) (there (ih r.1.0 r.1.1))

all_put : {p : ℕ} {xs ys : List ℕ} (P : ℕ → Type 0) → Put p xs ys → P p → AllByRecursion P xs → AllByRecursion P ys
all_put P here h a = (h, a)
all_put P (there r) h a = (a.0, all_put P r h a.1)

all_unput : {p : ℕ} {xs ys : List ℕ} (P : ℕ → Type 0) → Put p xs ys → AllByRecursion P ys → P p × AllByRecursion P xs
all_unput P here a = a
all_unput P (there r) a = let s = all_unput P r a.1 in (s.0, (a.0, s.1))

pub upward_unput : {p : ℕ} {xs ys : List ℕ} (f : ℕ → ℕ) → Put p xs ys → Upward f ys → Upward f xs
upward_unput f here u = u.1
upward_unput f (there {x = x} r) u = ((all_unput (λ y. f x ≤ f y) r u.0).1, upward_unput f r u.1)

pub inserted_upward : (f : ℕ → ℕ) (p : ℕ) (xs ys : List ℕ) → Upward f xs → In ys (inserted f p xs) → Upward f ys
unfolding inserted
inserted_upward f p [] ys u h = ⊎_elim (λ (e : ys ≡ (p ∷ [])). subst (Upward f) (sym e) (tt, tt)) (λ z. absurd z) h
inserted_upward f p (x ∷ xs) ys u h = step (λ zs. inserted_upward f p xs zs u.1) (inserted_cases f p x xs ys h)
  where
    step : ((zs : List ℕ) → In zs (inserted f p xs) → Upward f zs) → Either f p x xs ys → Upward f ys
    step ih (inl r) =
        let low : f p ≤ f x = r.0 in
        subst (Upward f) (sym r.1) ((low, All-weaker (λ y. f x ≤ f y) (λ y. f p ≤ f y) (λ y k. omega arith) xs u.0), u)
    step ih (inr r) = subst (Upward f) (sym r.1.2) (all_put (λ y. f x ≤ f y) (inserted_put f p xs r.1.0 r.1.1) r.0 u.0, ih r.1.0 r.1.1)

-- each list that p can be taken out of is found
pub put_in : {p : ℕ} {xs ys : List ℕ} (f : ℕ → ℕ) → Put p xs ys → Upward f ys → In ys (inserted f p xs)
unfolding inserted
put_in f (here {xs = []}) u = inl refl
put_in {p} f (here {xs = x ∷ xs}) u = inserted_front f p x xs u.0.0
put_in {p} f (there {x = x} {xs = xs} {ys = ys} r) u = inserted_later f p x xs ys (all_unput (λ y. f x ≤ f y) r u.0).0 (put_in f r u.1)

pub passing_put : {p : ℕ} {xs ys : List ℕ} (q : ℕ → Bool) → Put p xs ys → passing q ys ≡ passing q (p ∷ xs)
unfolding passing
passing_put q here = refl
passing_put q (there r) = omega (arith, passing_put q r)

passing_none : (q : ℕ → Bool) (xs : List ℕ) → AllByRecursion (λ x. q x ≡ false) xs → passing q xs ≡ 0
unfolding passing
passing_none q [] a = refl
passing_none q (x ∷ xs) a = rw a.0 (omega (arith, passing_none q xs a.1))

-- how many ways there are to put p in
pub inserted_number : (f : ℕ → ℕ) (p : ℕ) (xs : List ℕ) → Upward f xs → length (inserted f p xs) ≡ suc (passing (λ y. eqb (f y) (f p)) xs)
unfolding inserted passing
inserted_number f p [] u = refl
inserted_number f p (x ∷ xs) u = step (cases_order (f p) (f x)) (inserted_number f p xs u.1)
  where
    step : (f p ≡ f x) ⊎ ((f p < f x) ⊎ (f x < f p)) → length (inserted f p xs) ≡ suc (passing (λ y. eqb (f y) (f p)) xs) →
        length (inserted f p (x ∷ xs)) ≡ suc (passing (λ y. eqb (f y) (f p)) (x ∷ xs))
    step (inl e) ih = rw (le-leb (f p) (f x) (omega arith), le-leb (f x) (f p) (omega arith), eq-eqb (f x) (f p) (sym e))
        (omega (arith, length-map (inserted f p xs) (◌∷◌ x)))
    step (inr (inl l)) ih = rw (le-leb (f p) (f x) (omega arith), lt-leb (f x) (f p) l, ne_eqb (f x) (f p) (λ z. omega arith))
        (omega (arith, passing_none (λ y. eqb (f y) (f p)) xs (All-weaker (λ y. f x ≤ f y) (λ y. eqb (f y) (f p) ≡ false) (λ y k. ne_eqb (f y) (f p) (λ z. omega arith)) xs u.0)))
    step (inr (inr l)) ih = rw (lt-leb (f p) (f x) l, le-leb (f x) (f p) (omega arith), ne_eqb (f x) (f p) (λ z. omega arith))
        (omega (arith, length-map (inserted f p xs) (◌∷◌ x)))

-- taking p out again
times_yes : (p x : ℕ) (xs : List ℕ) → x ≡ p → times p (x ∷ xs) ≡ suc (times p xs)
unfolding passing
times_yes p x xs e = rw (eq-eqb x p e) (omega arith)

times_no : (p x : ℕ) (xs : List ℕ) → (x ≡ p → ⊥) → times p (x ∷ xs) ≡ times p xs
unfolding passing
times_no p x xs e = rw (ne_eqb x p e) (omega arith)

removed_yes : (p x : ℕ) (xs : List ℕ) → x ≡ p → removed p (x ∷ xs) ≡ xs
unfolding removed
removed_yes p x xs e = cond-true (eqb x p) _ _ (eq-eqb x p e)

removed_no : (p x : ℕ) (xs : List ℕ) → (x ≡ p → ⊥) → removed p (x ∷ xs) ≡ (x ∷ removed p xs)
unfolding removed
removed_no p x xs e = cond-false (eqb x p) _ _ (ne_eqb x p e)

head_other : (p x : ℕ) (xs : List ℕ) → times p (x ∷ xs) ≡ 0 → x ≡ p → ⊥
head_other p x xs h e = omega (arith, times_yes p x xs e)

pub removed_put : {p : ℕ} {xs ys : List ℕ} → times p xs ≡ 0 → Put p xs ys → removed p ys ≡ xs
removed_put {p} h (here {xs = xs}) = removed_yes p p xs refl
removed_put {p} h (there {x = x} {xs = xs} {ys = ys} r) = let o = head_other p x xs h in removed_no p x ys o ∙ ap (◌∷◌ x) (removed_put (sym (times_no p x xs o) ∙ h) r)

pub put_removed : (p : ℕ) (xs : List ℕ) → 0 < times p xs → Put p (removed p xs) xs
unfolding passing
put_removed p [] h = absurd (omega arith)
put_removed p (x ∷ xs) h = step (cases_eq x p) (put_removed p xs)
  where
    step : (x ≡ p) ⊎ (x ≡ p → ⊥) → (0 < times p xs → Put p (removed p xs) xs) → Put p (removed p (x ∷ xs)) (x ∷ xs)
    step (inl e) ih = rw (removed_yes p x xs e) (subst (λ z. Put p xs (z ∷ xs)) (sym e) here)
    step (inr e) ih = rw (removed_no p x xs e) (there (ih (omega (arith, times_no p x xs e))))

pub inserted_apart : (f : ℕ → ℕ) (p : ℕ) (xs : List ℕ) → times p xs ≡ 0 → Apart (inserted f p xs)
unfolding inserted
inserted_apart f p [] h = ((λ z. z), tt)
inserted_apart f p (x ∷ xs) h =
    let o = head_other p x xs h in
    apart_append (cond (leb (f p) (f x)) ((p ∷ (x ∷ xs)) ∷ []) []) (cond (leb (f x) (f p)) (map (◌∷◌ x) (inserted f p xs)) [])
    (apart_cond (leb (f p) (f x)) ((p ∷ (x ∷ xs)) ∷ []) ((λ z. z), tt))
    (apart_cond (leb (f x) (f p)) (map (◌∷◌ x) (inserted f p xs)) (apart_map (◌∷◌ x) (inserted f p xs) (λ s t e. cc) (inserted_apart f p xs (sym (times_no p x xs o) ∙ h))))
    (λ y j k.
    let r = (in_cond (leb (f p) (f x)) y ((p ∷ (x ∷ xs)) ∷ []) j).1 in
    let s = in_map_cases (◌∷◌ x) y (inserted f p xs) (in_cond (leb (f x) (f p)) y (map (◌∷◌ x) (inserted f p xs)) k).1 in
    ⊎_elim (λ (e : y ≡ (p ∷ (x ∷ xs))). let z : y ≡ (x ∷ s.0) = s.2 in o cc) (λ z. z) r)
