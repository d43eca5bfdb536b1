-- What stands in a list, lists with no element twice, and the least of some lists.
use Rattle.std.proofs.Common.{◌≡◌, ℕ, ◌+◌, ◌*◌, Bool, true, false, cond, ◌⊎◌, List, [], ◌∷◌, ◌++◌, map, length, sym, refl, ap, ◌∙◌, subst, ap₂, inl, inr, ⊎_elim, suc-mul, arith}
use Rattle.std.specs.List.{flat_map, AllByRecursion}
use Rattle.std.proofs.lemmas.List.{length-append}
use Rattle.std.proofs.lemmas.Bool.{both_ways, cases_Bool, cond-true, cond-false, false≢true}
use Rattle.finite.specs.Lexicographic.{lower}
use Rattle.finite.proofs.Lexicographic.{lower_irrefl, lower_trans}
use Rattle.arrangement.specs.Laws.{In, Apart}
use Rattle.arrangement.specs.EndSheets.{least_of}

module _ {X : Type 0} where
  pub in_left : (x : X) (xs ys : List X) → In x xs → In x (xs ++ ys)
  in_left x [] ys h = absurd h
  in_left x (y ∷ xs) ys (inl e) = inl e
  in_left x (y ∷ xs) ys (inr h) = inr (in_left x xs ys h)

  pub in_right : (x : X) (xs ys : List X) → In x ys → In x (xs ++ ys)
  in_right x [] ys h = h
  in_right x (y ∷ xs) ys h = inr (in_right x xs ys h)

  pub in_append : (x : X) (xs ys : List X) → In x (xs ++ ys) → In x xs ⊎ In x ys
  in_append x [] ys h = inr h
  in_append x (y ∷ xs) ys (inl e) = inl (inl e)
  in_append x (y ∷ xs) ys (inr h) = ⊎_elim (λ k. inl (inr k)) (λ k. inr k) (in_append x xs ys h)

  pub all_in : (P : X → Type 0) (xs : List X) (x : X) → AllByRecursion P xs → In x xs → P x
  all_in P [] x a h = absurd h
  all_in P (y ∷ xs) x a (inl e) = subst P (sym e) a.0
  all_in P (y ∷ xs) x a (inr h) = all_in P xs x a.1 h

  pub all_from_in : (P : X → Type 0) (xs : List X) → ((x : X) → In x xs → P x) → AllByRecursion P xs
  all_from_in P [] h = tt
  all_from_in P (x ∷ xs) h = (h x (inl refl), all_from_in P xs (λ y k. h y (inr k)))

  pub apart_append : (xs ys : List X) → Apart xs → Apart ys → ((x : X) → In x xs → In x ys → ⊥) → Apart (xs ++ ys)
  apart_append [] ys a b h = b
  apart_append (x ∷ xs) ys a b h = ((λ k. ⊎_elim a.0 (h x (inl refl)) (in_append x xs ys k)), apart_append xs ys a.1 b (λ y k. h y (inr k)))

  pub in_cond : (b : Bool) (x : X) (xs : List X) → In x (cond b xs []) → (b ≡ true) × In x xs
  in_cond true x xs h = (refl, h)
  in_cond false x xs h = absurd h

  pub in_cond_from : (b : Bool) (x : X) (xs : List X) → b ≡ true → In x xs → In x (cond b xs [])
  in_cond_from true x xs e h = h
  in_cond_from false x xs e h = absurd (false≢true e)

  pub apart_cond : (b : Bool) (xs : List X) → Apart xs → Apart (cond b xs [])
  apart_cond true xs h = h
  apart_cond false xs h = tt

module _ {X Y : Type 0} where
  pub in_map : (f : X → Y) (x : X) (xs : List X) → In x xs → In (f x) (map f xs)
  in_map f x [] h = absurd h
  in_map f x (y ∷ xs) (inl e) = inl (ap f e)
  in_map f x (y ∷ xs) (inr h) = inr (in_map f x xs h)

  pub in_map_cases : (f : X → Y) (y : Y) (xs : List X) → In y (map f xs) → (x : X) × In x xs × (y ≡ f x)
  in_map_cases f y [] h = absurd h
  in_map_cases f y (x ∷ xs) (inl e) = (x, inl refl, e)
  in_map_cases f y (x ∷ xs) (inr h) = let r = in_map_cases f y xs h in (r.0, inr r.1, r.2)

  pub apart_map : (f : X → Y) (xs : List X) → ((x y : X) → f x ≡ f y → x ≡ y) → Apart xs → Apart (map f xs)
  apart_map f [] i a = tt
  apart_map f (x ∷ xs) i a = ((λ h. let r = in_map_cases f (f x) xs h in a.0 (subst (λ z. In z xs) (sym (i x r.0 r.2)) r.1)), apart_map f xs i a.1)

  pub in_joined : (f : X → List Y) (y : Y) (x : X) (xs : List X) → In x xs → In y (f x) → In y (flat_map f xs)
  in_joined f y x [] h k = absurd h
  in_joined f y x (z ∷ xs) (inl e) k = in_left y (f z) (flat_map f xs) (subst (λ w. In y (f w)) e k)
  in_joined f y x (z ∷ xs) (inr h) k = in_right y (f z) (flat_map f xs) (in_joined f y x xs h k)

  pub in_joined_cases : (f : X → List Y) (y : Y) (xs : List X) → In y (flat_map f xs) → (x : X) × In x xs × In y (f x)
  in_joined_cases f y [] h = absurd h
  in_joined_cases f y (x ∷ xs) h = ⊎_elim (λ k. (x, inl refl, k)) (λ k. let r = in_joined_cases f y xs k in (r.0, inr r.1, r.2)) (in_append y (f x) (flat_map f xs) h)

  -- back tells from which part an element comes
  pub apart_joined : (f : X → List Y) (back : Y → X) (xs : List X) → Apart xs → AllByRecursion (λ x. Apart (f x)) xs → AllByRecursion (λ x. (y : Y) → In y (f x) → back y ≡ x) xs → Apart (flat_map f xs)
  apart_joined f back [] a b c = tt
  apart_joined f back (x ∷ xs) a b c =
      apart_append (f x) (flat_map f xs) b.0 (apart_joined f back xs a.1 b.1 c.1)
      (λ y h k.
      let r = in_joined_cases f y xs k in
      let e : back y ≡ r.0 = all_in (λ x. (y : Y) → In y (f x) → back y ≡ x) xs r.0 c.1 r.1 y r.2 in
      a.0 (subst (λ z. In z xs) (sym e ∙ c.0 y h) r.1))

  pub length_joined : (f : X → List Y) (k : ℕ) (xs : List X) → AllByRecursion (λ x. length (f x) ≡ k) xs → length (flat_map f xs) ≡ length xs * k
  length_joined f k [] a = omega arith
  length_joined f k (x ∷ xs) a =
      let ih : length (flat_map f xs) ≡ length xs * k = length_joined f k xs a.1 in
      length-append (f x) (flat_map f xs) ∙ ap₂ ◌+◌ a.0 ih ∙ omega (arith, suc-mul (length xs) k)

-- the least of some lists is one of them, and none of them is lower
pub least_in : (x : List ℕ) (xs : List (List ℕ)) → In (least_of (x ∷ xs)) (x ∷ xs)
unfolding least_of
least_in x [] = inl refl
least_in x (y ∷ ys) =
    elim (cases_Bool (lower x (least_of (y ∷ ys)))) [
      | inl e ↦ inl (cond-true (lower x (least_of (y ∷ ys))) x _ e)
      | inr e ↦ inr (subst (λ z. In z (y ∷ ys)) (sym (cond-false (lower x (least_of (y ∷ ys))) x _ e)) (least_in y ys))
    ]

pub least_not_above : (x : List ℕ) (xs : List (List ℕ)) (z : List ℕ) → In z (x ∷ xs) → lower z (least_of (x ∷ xs)) ≡ false
unfolding least_of
least_not_above x [] z h = ⊎_elim (λ (e : z ≡ x). ap (λ w. lower w x) e ∙ lower_irrefl x) (λ k. absurd k) h
least_not_above x (y ∷ ys) z h = step (cases_Bool (lower x (least_of (y ∷ ys)))) h (least_not_above y ys z)
  where
    r : List ℕ
    r = least_of (y ∷ ys)

    step : (lower x r ≡ true) ⊎ (lower x r ≡ false) → In z (x ∷ (y ∷ ys)) → (In z (y ∷ ys) → lower z r ≡ false) → lower z (cond (lower x r) x r) ≡ false
    step (inl e) (inl i) ih = rw e (ap (λ w. lower w x) i ∙ lower_irrefl x)
    step (inl e) (inr i) ih = rw e (elim (cases_Bool (lower z x)) [
      | inl k ↦ absurd (both_ways (lower z r) (ih i) (lower_trans z x r k e))
      | inr k ↦ k
    ])
    step (inr e) (inl i) ih = rw e (ap (λ w. lower w r) i ∙ e)
    step (inr e) (inr i) ih = rw e (ih i)
