-- Lists of values, and lists that are equal part by part.
use Rattle.std.proofs.Common.{◌≡◌, ℕ, zero, suc, ◌+◌, ◌<◌, ◌≤◌, List, ◌++◌, length, get_or, take, drop, replicate, sym, refl, ap, ◌∙◌, subst, ap₂, ⊎_elim, arith}
use Rattle.std.specs.List.{range_with_len, flat_map}
use Rattle.std.proofs.lemmas.List.{same_lists, take_at, drop_at}
use Rattle.std.proofs.lemmas.List.FromFn.{length-map-range_with_len, get_or-map-range_with_len}
use Rattle.std.proofs.lemmas.Bool.{cases_eq}
use Rattle.finite.specs.Injections.{tabulate}

pub tabulate_cong : (f g : ℕ → ℕ) (n m : ℕ) → n ≡ m → ((i : ℕ) → i < n → f i ≡ g i) → tabulate f n ≡ tabulate g m
tabulate_cong f g n m e h =
    same_lists (tabulate f n) (tabulate g m) (length-map-range_with_len f 0 n ∙ e ∙ sym (length-map-range_with_len g 0 m))
    (λ k d l.
    let in-n : k < n = omega (arith, length-map-range_with_len f 0 n) in
    get_or-map-range_with_len f 0 n k k d in-n (omega arith) ∙ h k in-n ∙ sym (get_or-map-range_with_len g 0 m k k d (omega arith) (omega arith)))

pub tabulate_same : (f g : ℕ → ℕ) (n i : ℕ) → i < n → tabulate f n ≡ tabulate g n → f i ≡ g i
tabulate_same f g n i l e = sym (get_or-map-range_with_len f 0 n i i 0 l (omega arith)) ∙ ap (λ (xs : List ℕ). get_or xs i 0) e ∙ get_or-map-range_with_len g 0 n i i 0 l (omega arith)

pub append_parts : (xs ys us vs : List ℕ) → length xs ≡ length us → xs ++ ys ≡ us ++ vs → (xs ≡ us) × (ys ≡ vs)
append_parts xs ys us vs l e = (
  sym (take_at xs ys (length xs) refl) ∙ ap (take (length xs)) e ∙ take_at us vs (length xs) (sym l),
  sym (drop_at xs ys (length xs) refl) ∙ ap (drop (length xs)) e ∙ drop_at us vs (length xs) (sym l),
)

pub joined_cong : (f g : ℕ → List ℕ) (n a : ℕ) → ((j : ℕ) → a ≤ j → j < a + n → f j ≡ g j) → flat_map f (range_with_len a n) ≡ flat_map g (range_with_len a n)
joined_cong f g zero a h = refl
joined_cong f g (suc n) a h = ap₂ ◌++◌ (h a (omega arith) (omega arith)) (joined_cong f g n (a + 1) (λ j l m. h j (omega arith) (omega arith)))

-- parts of equal lengths
pub joined_same : (f g : ℕ → List ℕ) (n a : ℕ) → ((j : ℕ) → length (f j) ≡ length (g j)) → flat_map f (range_with_len a n) ≡ flat_map g (range_with_len a n) → (j : ℕ) → a ≤ j → j < a + n → f j ≡ g j
joined_same f g zero a w e j l m = absurd (omega arith)
joined_same f g (suc n) a w e j l m =
    let parts = append_parts (f a) (flat_map f (range_with_len (a + 1) n)) (g a) (flat_map g (range_with_len (a + 1) n)) (w a) e in
    ⊎_elim (λ (z : j ≡ a). subst (λ x. f x ≡ g x) (sym z) parts.0) (λ z. joined_same f g n (a + 1) w parts.1 j (omega arith) (omega arith)) (cases_eq j a)

-- a list of zeros, and what stands past its end
pub zero_list : (n k : ℕ) → ◌≡◌ {A = ℕ} (get_or (replicate n 0) k 0) 0
zero_list zero k = refl
zero_list (suc n) zero = refl
zero_list (suc n) (suc k) = zero_list n k
