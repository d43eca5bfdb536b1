-- Bytes and the numbers that they spell.
use Rattle.std.proofs.Common.{◌≡◌, ℕ, zero, suc, ◌+◌, ◌*◌, ◌/◌, ◌%◌, ◌^◌, ◌<◌, ◌≤◌, List, [], ◌∷◌, ◌++◌, length, get_or, take, sym, refl, ap, ◌∙◌, subst, ap₂, add-one, arith}
use native.Mathlib.Nat.{mod-one}
use Rattle.std.specs.List.{AllByRecursion}
use Rattle.std.proofs.lemmas.Nat.{mod_below, mod-pow-add, div-mul-add, mod-mul-add}
use Rattle.std.proofs.lemmas.List.{length_push, take_more, map-append, take_all}
use Rattle.std.proofs.ByRecursion.{All-get_or}
use Rattle.format.specs.Fields.{Fit, size, spelt, number, bytes_of, octets, num}
use Rattle.format.proofs.Runs.{spelt_append, spelt_push, spelt_from, number_below}

pub size_octets : (bs : List ℕ) → size (octets bs) ≡ 8 * length bs
unfolding size
size_octets [] = refl
size_octets (b ∷ bs) = omega (arith, size_octets bs)

pub fit_octets : (bs : List ℕ) → AllByRecursion (λ b. b < 256) bs → Fit (octets bs)
fit_octets [] h = tt
fit_octets (b ∷ bs) h = (h.0, fit_octets bs h.1)

pub num_append : (cs bs : List ℕ) → num (cs ++ bs) ≡ num cs * 2 ^ (8 * length bs) + num bs
num_append cs bs =
    ap number (map-append (λ (b : ℕ). (8, b)) cs bs) ∙ spelt_append 0 (octets cs) (octets bs) ∙ spelt_from (num cs) (octets bs)
    ∙ ap (λ (k : ℕ). num cs * 2 ^ k + num bs) (size_octets bs)

pub num_push : (bs : List ℕ) (b : ℕ) → num (bs ++ b ∷ []) ≡ num bs * 256 + b
num_push bs b = ap number (map-append (λ (b : ℕ). (8, b)) bs (b ∷ [])) ∙ spelt_push 0 (octets bs) 8 b

pub num_below : (bs : List ℕ) → AllByRecursion (λ b. b < 256) bs → num bs < 2 ^ (8 * length bs)
num_below bs h = subst (λ (k : ℕ). num bs < 2 ^ k) (size_octets bs) (number_below (octets bs) (fit_octets bs h))

pub length_bytes : (n v : ℕ) → length (bytes_of n v) ≡ n
unfolding bytes_of
length_bytes zero v = refl
length_bytes (suc n) v = length_push (bytes_of n (v / 256)) (v % 256) ∙ omega (arith, length_bytes n (v / 256))

pub bytes_more : (n v b : ℕ) → b < 256 → bytes_of (suc n) (v * 256 + b) ≡ bytes_of n v ++ b ∷ []
unfolding bytes_of
bytes_more n v b h = ap₂ (λ (x y : ℕ). bytes_of n x ++ y ∷ []) (div-mul-add v 256 b h) (mod-mul-add v 256 b h)

all_snoc : (P : ℕ → Type 0) (xs : List ℕ) (x : ℕ) → AllByRecursion P xs → P x → AllByRecursion P (xs ++ x ∷ [])
all_snoc P [] x h k = (k, tt)
all_snoc P (y ∷ ys) x h k = (h.0, all_snoc P ys x h.1 k)

pub bytes_small : (n v : ℕ) → AllByRecursion (λ b. b < 256) (bytes_of n v)
unfolding bytes_of
bytes_small zero v = tt
bytes_small (suc n) v = all_snoc (λ b. b < 256) (bytes_of n (v / 256)) (v % 256) (bytes_small n (v / 256)) (mod_below v 256 (omega arith))

pub num_bytes : (n v : ℕ) → num (bytes_of n v) ≡ v % 2 ^ (8 * n)
unfolding bytes_of spelt
num_bytes zero v = sym (mod-one v)
num_bytes (suc n) v =
    num_push (bytes_of n (v / 256)) (v % 256)
    ∙ ap (λ (k : ℕ). k * 256 + v % 256) (num_bytes n (v / 256))
    ∙ sym (mod-pow-add v (8 * n) 8)
    ∙ ap (λ (k : ℕ). v % 2 ^ k) (omega arith)

-- the front of the bytes, from its number
front_back : (bs : List ℕ) → AllByRecursion (λ b. b < 256) bs → (i : ℕ) → i ≤ length bs → bytes_of i (num (take i bs)) ≡ take i bs
unfolding bytes_of
front_back bs h zero l = refl
front_back bs h (suc i) l =
    let e : take (suc i) bs ≡ take i bs ++ get_or bs i 0 ∷ [] = ap (λ (k : ℕ). take k bs) (sym (add-one i)) ∙ take_more bs i 0 (omega arith) in
    ap (λ (x : List ℕ). bytes_of (suc i) (num x)) e
    ∙ ap (bytes_of (suc i)) (num_push (take i bs) (get_or bs i 0))
    ∙ bytes_more i (num (take i bs)) (get_or bs i 0) (small bs h i (omega arith))
    ∙ ap (λ (x : List ℕ). x ++ get_or bs i 0 ∷ []) (front_back bs h i (omega arith))
    ∙ sym e
  where
    small : (bs : List ℕ) → AllByRecursion (λ b. b < 256) bs → (i : ℕ) → i < length bs → get_or bs i 0 < 256
    small bs h i l = All-get_or (λ b. b < 256) bs i 0 l h

pub bytes_back : (bs : List ℕ) → AllByRecursion (λ b. b < 256) bs → bytes_of (length bs) (num bs) ≡ bs
bytes_back bs h = ap (λ (x : List ℕ). bytes_of (length bs) (num x)) (sym (take_all (length bs) bs (omega arith))) ∙ front_back bs h (length bs) (omega arith) ∙ take_all (length bs) bs (omega arith)
