-- Lists are compared at their first difference, and rows by label, causes and effects.
use Rattle.std.proofs.Common.{◌≡◌, ℕ, zero, suc, ◌+◌, ◌<◌, ◌≤◌, Bool, true, false, not, List, [], ◌∷◌, ◌++◌, map, length, take, get_or, Ordering, Less, Equal, Greater, sym, refl, ap, ◌∙◌, subst, ap₂, inl, inr, arith}
use Rattle.std.specs.Ordering.{MatchOrdering, nat_cmp, is_lt, is_eq, is_ne}
use Rattle.std.specs.Cmp.{nat_cmp_is}
use Rattle.std.specs.List.{range_with_len, flat_map}
use Rattle.std.proofs.lemmas.List.{length-take, get_or-take}
use Rattle.std.proofs.lemmas.Grind.{get_or_default_zero}
use Rattle.std.proofs.lemmas.List.FromFn.{length-map-range_with_len}
use Rattle.std.proofs.lemmas.Bool.{cases_eq, cases_order, both_ways, not-true, not_from_false, true≢false}
use Rattle.finite.specs.Lexicographic.{lower, at_most}
use Rattle.finite.specs.Injections.{tabulate}
use Rattle.finite.proofs.Lexicographic.{lower_front, lower_head, lower_tail, lower_parts, lower_irrefl, lower_trans, lower_tri, lower_not, at_most_trans, at_most_total}
use Rattle.net.specs.Model.{Model}
use Rattle.drawing.specs.declared.arrays.Arrays.{Arrays}
use Rattle.drawing.specs.Arrays.{model_of}
use Rattle.arrangement.specs.Arrangements.{at, row}
use Rattle.search.specs.Rows.{Compares}
use Rattle.search.specs.Sorting.{AnswersBy}

-- what is lower is at most
pub lower_at_most : (xs ys : List ℕ) → lower xs ys ≡ true → at_most xs ys ≡ true
lower_at_most xs ys h = not_from_false (lower ys xs) (lower_not xs ys h)

-- what is lower is not the same
pub lower_apart : (xs ys : List ℕ) → lower xs ys ≡ true → xs ≡ ys → ⊥
lower_apart xs ys h e = both_ways (lower ys ys) (lower_irrefl ys) (subst (λ (z : List ℕ). lower z ys ≡ true) e h)

-- what is the same is not lower
pub same_not_lower : (xs ys : List ℕ) → xs ≡ ys → lower xs ys ≡ false
same_not_lower xs ys e = subst (λ (z : List ℕ). lower xs z ≡ false) e (lower_irrefl xs)

-- lower than something at most zs is lower than zs
pub lower_at_most_trans : (xs ys zs : List ℕ) → lower xs ys ≡ true → at_most ys zs ≡ true → lower xs zs ≡ true
lower_at_most_trans xs ys zs h k = elim (lower_tri ys zs) [
  | inl l ↦ lower_trans xs ys zs h l
  | inr (inl e) ↦ subst (λ (z : List ℕ). lower xs z ≡ true) e h
  | inr (inr l) ↦ absurd (both_ways (lower zs ys) (not-true _ k) l)
]

-- lists with lower fronts of one length
pub front_lower : (xs ys us vs : List ℕ) → length xs ≡ length ys → lower xs ys ≡ true → lower (xs ++ us) (ys ++ vs) ≡ true
unfolding lower
front_lower [] [] us vs l h = absurd (true≢false (sym h))
front_lower [] (y ∷ ys) us vs l h = absurd (omega arith)
front_lower (x ∷ xs) [] us vs l h = absurd (omega arith)
front_lower (x ∷ xs) (y ∷ ys) us vs l h = elim (lower_parts x y xs ys h) [
  | inl k ↦ lower_head x y (xs ++ us) (ys ++ vs) k
  | inr k ↦ lower_tail x y (xs ++ us) (ys ++ vs) k.0 (front_lower xs ys us vs (omega arith) k.1)
]

-- a table is lower where it is lower at the first difference
tabulate_lower_from : (f g : ℕ → ℕ) (n a i : ℕ) → a ≤ i → i < a + n → ((k : ℕ) → k < i → f k ≡ g k) → f i < g i → lower (map f (range_with_len a n)) (map g (range_with_len a n)) ≡ true
tabulate_lower_from f g zero a i l m h d = absurd (omega arith)
tabulate_lower_from f g (suc n) a i l m h d = elim (cases_eq i a) [
  | inl e ↦ lower_head (f a) (g a) _ _ (subst (λ x. f x < g x) e d)
  | inr ne ↦ lower_tail (f a) (g a) _ _ (h a (omega arith)) (tabulate_lower_from f g n (a + 1) i (omega arith) (omega arith) h d)
]

pub tabulate_lower : (f g : ℕ → ℕ) (n i : ℕ) → i < n → ((k : ℕ) → k < i → f k ≡ g k) → f i < g i → lower (tabulate f n) (tabulate g n) ≡ true
tabulate_lower f g n i m h d = tabulate_lower_from f g n 0 i (omega arith) (omega arith) h d

-- parts of equal lengths, one after the other, are lower where they are lower at the first difference
pub joined_lower : (f g : ℕ → List ℕ) (n a i : ℕ) → ((k : ℕ) → length (f k) ≡ length (g k)) → a ≤ i → i < a + n → ((k : ℕ) → k < i → f k ≡ g k) → lower (f i) (g i) ≡ true → lower (flat_map f (range_with_len a n)) (flat_map g (range_with_len a n)) ≡ true
joined_lower f g zero a i w l m h d = absurd (omega arith)
joined_lower f g (suc n) a i w l m h d = elim (cases_eq i a) [
  | inl e ↦ front_lower (f a) (g a) _ _ (w a) (subst (λ x. lower (f x) (g x) ≡ true) e d)
  | inr ne ↦
      subst (λ (x : List ℕ). lower (f a ++ flat_map f (range_with_len (a + 1) n)) (x ++ flat_map g (range_with_len (a + 1) n)) ≡ true) (h a (omega arith))
      (lower_front (f a) _ _ ∙ joined_lower f g n (a + 1) i w (omega arith) (omega arith) h d)
]

-- the causes of t along the order a, and its effects
abbrev pub causes_along : Model → (ℕ → ℕ) → ℕ → List ℕ
causes_along N a t = tabulate (λ i. N.cause t (a i)) N.places

abbrev pub effects_along : Model → (ℕ → ℕ) → ℕ → List ℕ
effects_along N a t = tabulate (λ i. N.effect t (a i)) N.places

module _ (N : Model) (a b : ℕ → ℕ) (t u : ℕ) where
  -- a row with a lower label
  pub row_label : N.transition_label t < N.transition_label u → lower (row N a t) (row N b u) ≡ true
  unfolding row
  row_label h = lower_head _ _ _ _ h

  -- a row with the same label and lower causes
  pub row_causes : N.transition_label t ≡ N.transition_label u → lower (causes_along N a t) (causes_along N b u) ≡ true → lower (row N a t) (row N b u) ≡ true
  unfolding row
  row_causes e h = lower_tail _ _ _ _ e (front_lower _ _ _ _ (length-map-range_with_len _ 0 N.places ∙ sym (length-map-range_with_len _ 0 N.places)) h)

  -- a row with the same label, the same causes and lower effects
  pub row_effects : N.transition_label t ≡ N.transition_label u → causes_along N a t ≡ causes_along N b u → lower (effects_along N a t) (effects_along N b u) ≡ true → lower (row N a t) (row N b u) ≡ true
  unfolding row
  row_effects e c h = lower_tail _ _ _ _ e (subst (λ (x : List ℕ). lower (causes_along N a t ++ effects_along N a t) (x ++ effects_along N b u) ≡ true) c (lower_front (causes_along N a t) _ _ ∙ h))

  -- a row that agrees in all
  pub row_alike : N.transition_label t ≡ N.transition_label u → causes_along N a t ≡ causes_along N b u → effects_along N a t ≡ effects_along N b u → row N a t ≡ row N b u
  unfolding row
  row_alike e c h = ap₂ ◌∷◌ e (ap₂ ◌++◌ c h)

-- what an ordering says of two lists, with equal elements before them
after : (o : Ordering) (fs xs ys : List ℕ) → Compares o xs ys → Compares o (fs ++ xs) (fs ++ ys)
after Less fs xs ys h = lower_front fs xs ys ∙ h
after Equal fs xs ys h = ap (λ (z : List ℕ). fs ++ z) h
after Greater fs xs ys h = lower_front fs ys xs ∙ h

-- what an ordering says of two lists, with equal numbers before them
pub after_label : (o : Ordering) (x y : ℕ) (xs ys : List ℕ) → x ≡ y → Compares o xs ys → Compares o (x ∷ xs) (y ∷ ys)
after_label o x y xs ys e h = subst (λ (z : ℕ). Compares o (x ∷ xs) (z ∷ ys)) e (after o (x ∷ []) xs ys h)

-- lists that are as two numbers that differ
apart_compares : (x y : ℕ) (xs ys : List ℕ) → (x ≡ y → ⊥) → (x < y → lower xs ys ≡ true) → (y < x → lower ys xs ≡ true) → Compares (nat_cmp x y) xs ys
apart_compares x y xs ys ne less greater = elim (cases_order x y) [
  | inl e ↦ absurd (ne e)
  | inr (inl l) ↦ subst (λ (o : Ordering). Compares o xs ys) (nat_cmp_is x y Less l) (less l)
  | inr (inr l) ↦ subst (λ (o : Ordering). Compares o xs ys) (nat_cmp_is x y Greater l) (greater l)
]

-- two lists after fronts of one length, where the fronts decide unless they are equal
pub then_compares : {P : Type 0} (o r : Ordering) (fs gs xs ys : List ℕ) → length fs ≡ length gs → Compares o fs gs → MatchOrdering o (r ≡ Less) P (r ≡ Greater) → (P → Compares r xs ys) → Compares r (fs ++ xs) (gs ++ ys)
then_compares Less r fs gs xs ys l h e _ = subst (λ (z : Ordering). Compares z (fs ++ xs) (gs ++ ys)) (sym e) (front_lower fs gs xs ys l h)
then_compares Equal r fs gs xs ys l h p next = subst (λ (z : List ℕ). Compares r (fs ++ xs) (z ++ ys)) h (after r fs xs ys (next p))
then_compares Greater r fs gs xs ys l h e _ = subst (λ (z : Ordering). Compares z (fs ++ xs) (gs ++ ys)) (sym e) (front_lower gs fs ys xs (sym l) h)

-- two lists that are read alike
pub read_alike : (f g : ℕ → ℕ) (xs ys : List ℕ) → length ys ≡ length xs → ((k : ℕ) → k < length xs → f (at xs k) ≡ g (at ys k)) → map f xs ≡ map g ys
read_alike f g [] [] l h = refl
read_alike f g [] (y ∷ ys) l h = absurd (omega arith)
read_alike f g (x ∷ xs) [] l h = absurd (omega arith)
read_alike f g (x ∷ xs) (y ∷ ys) l h = ap₂ ◌∷◌ (h 0 (omega arith)) (read_alike f g xs ys (omega arith) (λ k m. h (suc k) (omega arith)))

-- two lists that are read alike before i, and not at i
read_lower : (f g : ℕ → ℕ) (xs ys : List ℕ) (i : ℕ) → i < length xs → i < length ys → ((k : ℕ) → k < i → f (at xs k) ≡ g (at ys k)) → f (at xs i) < g (at ys i) → lower (map f xs) (map g ys) ≡ true
read_lower f g [] ys i l m h d = absurd (omega arith)
read_lower f g (x ∷ xs) [] i l m h d = absurd (omega arith)
read_lower f g (x ∷ xs) (y ∷ ys) zero l m h d = lower_head (f x) (g y) (map f xs) (map g ys) d
read_lower f g (x ∷ xs) (y ∷ ys) (suc i) l m h d = lower_tail (f x) (g y) (map f xs) (map g ys) (h 0 (omega arith)) (read_lower f g xs ys i (omega arith) (omega arith) (λ k n. h (suc k) (omega arith)) d)

pub read_apart : (f g : ℕ → ℕ) (xs ys : List ℕ) (i : ℕ) → i < length xs → i < length ys → ((k : ℕ) → k < i → f (at xs k) ≡ g (at ys k)) → (f (at xs i) ≡ g (at ys i) → ⊥)
    → Compares (nat_cmp (f (at xs i)) (g (at ys i))) (map f xs) (map g ys)
read_apart f g xs ys i l m h ne = apart_compares _ _ (map f xs) (map g ys) ne
    (read_lower f g xs ys i l m h)
    (read_lower g f ys xs i m l (λ k n. sym (h k n)))

-- what is read along the front of an order, as a table
along_from : (f : ℕ → ℕ) (xs ys : List ℕ) (a n : ℕ) → n ≤ length xs → ((i : ℕ) → at ys (a + i) ≡ at xs i) → map f (take n xs) ≡ map (λ i. f (at ys i)) (range_with_len a n)
along_from f xs ys a zero l h = refl
along_from f [] ys a (suc n) l h = absurd (omega arith)
along_from f (x ∷ xs) ys a (suc n) l h = ap₂ ◌∷◌ (ap f (sym (h 0) ∙ ap (at ys) (omega arith))) (along_from f xs ys (a + 1) n (omega arith) (λ i. ap (at ys) (omega arith) ∙ h (suc i)))

pub along : (f : ℕ → ℕ) (xs : List ℕ) (n : ℕ) → n ≤ length xs → map f (take n xs) ≡ tabulate (λ i. f (at xs i)) n
along f xs n l = along_from f xs xs 0 n l (λ i. ap (at xs) (omega arith))

-- the front of an order whose numbers are below a bound
pub front_below : (xs : List ℕ) (n m : ℕ) → ((i : ℕ) → i < n → at xs i < m) → (k d : ℕ) → k < length (take n xs) → get_or (take n xs) k d < m
front_below xs n m h k d r = omega (arith, length-take n xs, r, get_or-take n xs k d (omega (arith, length-take n xs)), get_or_default_zero xs k d (omega (arith, length-take n xs)), h k (omega (arith, length-take n xs)))

-- rows whose labels differ are as their labels
pub row_labels : (N : Model) (a b : ℕ → ℕ) (t u : ℕ) → (N.transition_label t ≡ N.transition_label u → ⊥) → Compares (nat_cmp (N.transition_label t) (N.transition_label u)) (row N a t) (row N b u)
row_labels N a b t u ne = apart_compares _ _ (row N a t) (row N b u) ne (row_label N a b t u) (row_label N b a u t)

-- an ordering as tests
pub lower_is : (o : Ordering) (xs ys : List ℕ) → Compares o xs ys → is_lt o ≡ lower xs ys
lower_is Less xs ys h = sym h
lower_is Equal xs ys h = sym (same_not_lower xs ys h)
lower_is Greater xs ys h = sym (lower_not ys xs h)

pub at_most_is : (o : Ordering) (xs ys : List ℕ) → Compares o xs ys → is_lt o ≡ false → at_most ys xs ≡ true
at_most_is o xs ys h e = ap not (sym (lower_is o xs ys h) ∙ e)

pub same_is : (o : Ordering) (xs ys : List ℕ) → Compares o xs ys → is_eq o ≡ true → xs ≡ ys
same_is Less xs ys h e = absurd (true≢false (sym e))
same_is Equal xs ys h e = h
same_is Greater xs ys h e = absurd (true≢false (sym e))

pub apart_is : (o : Ordering) (xs ys : List ℕ) → Compares o xs ys → is_eq o ≡ false → xs ≡ ys → ⊥
apart_is Less xs ys h e s = lower_apart xs ys h s
apart_is Equal xs ys h e s = true≢false e
apart_is Greater xs ys h e s = lower_apart ys xs h (sym s)

-- parts of equal lengths, compared at their first difference
pub joined_compares : (o : Ordering) (f g : ℕ → List ℕ) (n i : ℕ) → ((k : ℕ) → length (f k) ≡ length (g k)) → i < n → ((k : ℕ) → k < i → f k ≡ g k) → Compares o (f i) (g i) → is_ne o ≡ true → Compares o (flat_map f (range_with_len 0 n)) (flat_map g (range_with_len 0 n))
joined_compares Less f g n i w l same h e = joined_lower f g n 0 i w (omega arith) (omega arith) same h
joined_compares Equal f g n i w l same h e = absurd (true≢false (sym e))
joined_compares Greater f g n i w l same h e = joined_lower g f n 0 i (λ k. sym (w k)) (omega arith) (omega arith) (λ k m. sym (same k m)) h

-- a test that answers whether a row is lower goes by rows
pub row_tests : (N : Model) (a : ℕ → ℕ) (n : ℕ) (test : ℕ → ℕ → Bool → Type 0) → ((t u : ℕ) (b : Bool) → t < n → u < n → test t u b → b ≡ lower (row N a t) (row N a u)) → AnswersBy n (λ t u. at_most (row N a t) (row N a u)) test
row_tests N a n test answers = record {
  through = λ t u v. at_most_trans (row N a t) (row N a u) (row N a v);
  total = λ t u e. elim (at_most_total (row N a t) (row N a u)) [ inl h ↦ absurd (both_ways _ e h) | inr h ↦ h ];
  answers = λ t u b l m h. ap not (sym (answers t u b l m h));
}

-- what is read along the fronts of two orders
pub along_both : (r : Ordering) (f g : ℕ → ℕ) (a b : List ℕ) (n : ℕ) → n ≤ length a → n ≤ length b → Compares r (map f (take n a)) (map g (take n b)) → Compares r (tabulate (λ i. f (at a i)) n) (tabulate (λ i. g (at b i)) n)
along_both r f g a b n l m h = subst (λ (z : List ℕ). Compares r z (tabulate (λ i. g (at b i)) n)) (along f a n l) (subst (λ (z : List ℕ). Compares r (map f (take n a)) z) (along g b n m) h)

-- what an ordering says of two lists by other names
pub compares_as : (o : Ordering) (xs ys us vs : List ℕ) → xs ≡ us → ys ≡ vs → Compares o xs ys → Compares o us vs
compares_as o xs ys us vs e f h = subst (λ (z : List ℕ). Compares o z vs) e (subst (λ (z : List ℕ). Compares o xs z) f h)

-- numbers that are a row of a net are one of the same net by another name
pub row_same_net : {xs : List ℕ} (n m : Arrays) (x : ℕ → ℕ) (t : ℕ) → n ≡ m → xs ≡ row (model_of n) x t → xs ≡ row (model_of m) x t
row_same_net n m x t e h = h ∙ ap (λ (k : Arrays). row (model_of k) x t) e
