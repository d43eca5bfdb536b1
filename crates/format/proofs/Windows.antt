-- A field, from the one, two or three bytes that it lies in.
use Rattle.std.proofs.Common.{◌≡◌, ℕ, ◌+◌, ◌-◌, ◌*◌, ◌/◌, ◌%◌, ◌^◌, ◌<◌, ◌≤◌, List, length, get_or, take, sym, ap, ◌∙◌, ap₂, mul_assoc, arith}
use native.Mathlib.Nat.{mul-add-mod_self_right}
use Rattle.std.proofs.lemmas.Nat.{pow-add, field_of}
use Rattle.std.proofs.lemmas.List.{take_more}
use Rattle.format.specs.Fields.{num, first, field_at}
use Rattle.format.proofs.Bytes.{num_push}

-- what stands above the window does not count
window : (x y a d w : ℕ) → w ≤ a → (x * 2 ^ (a + d) + y) / 2 ^ d % 2 ^ w ≡ y / 2 ^ d % 2 ^ w
window x y a d w l =
    let e : a + d ≡ a - w + (w + d) = omega arith in
    let p : x * 2 ^ (a + d) ≡ x * 2 ^ (a - w) * 2 ^ (w + d) = ap (λ (k : ℕ). x * 2 ^ k) e ∙ ap (λ (k : ℕ). x * k) (pow-add 2 (a - w) (w + d)) ∙ sym (mul_assoc x (2 ^ (a - w)) (2 ^ (w + d))) in
    sym (field_of (x * 2 ^ (a + d) + y) w d)
    ∙ ap (λ (k : ℕ). (k + y) % 2 ^ (w + d) / 2 ^ d) p
    ∙ ap (λ (k : ℕ). k / 2 ^ d) (mul-add-mod_self_right (x * 2 ^ (a - w)) (2 ^ (w + d)) y)
    ∙ field_of y w d

-- one byte more
num_more : (bs : List ℕ) (i : ℕ) → i < length bs → num (take (i + 1) bs) ≡ num (take i bs) * 256 + get_or bs i 0
num_more bs i l = ap num (take_more bs i 0 l) ∙ num_push (take i bs) (get_or bs i 0)

-- a field that ends at the bit 8 * q + r, out of y: the last a + (8 - r) bits of the bytes up to the q-th
ends_in : (bs : List ℕ) (o w q r a x y : ℕ) → o + w ≡ 8 * q + r → r < 8 → w ≤ a → num (take q bs) * 256 + get_or bs q 0 ≡ x * 2 ^ (a + (8 - r)) + y →
    field_at bs o w ≡ y / 2 ^ (8 - r) % 2 ^ w
unfolding field_at first
ends_in bs o w q r a x y e h l is =
    let k : (o + w) / 8 ≡ q = omega arith in
    let d : (o + w) % 8 ≡ r = omega arith in
    ap₂ (λ (q s : ℕ). (num (take q bs) * 256 + get_or bs q 0) / 2 ^ (8 - s) % 2 ^ w) k d
    ∙ ap (λ (k : ℕ). k / 2 ^ (8 - r) % 2 ^ w) is
    ∙ window x y a (8 - r) w l

-- a field that ends at the bit 8 * i + r, and begins in the same byte
pub one_byte : (bs : List ℕ) (o w i r : ℕ) → o + w ≡ 8 * i + r → r < 8 → w ≤ r → field_at bs o w ≡ get_or bs i 0 / 2 ^ (8 - r) % 2 ^ w
one_byte bs o w i r e h l =
    let x = num (take i bs) in
    let a : r + (8 - r) ≡ 8 = omega arith in
    ends_in bs o w i r r x _ e h l (omega (arith, ap (λ (k : ℕ). x * 2 ^ k) a))

-- a field of at most 8 bits, and a few more, that ends at the bit 8 * (i + 1) + r
pub two_bytes : (bs : List ℕ) (o w i r : ℕ) → o + w ≡ 8 * (i + 1) + r → r < 8 → w ≤ 8 + r → i < length bs →
    field_at bs o w ≡ (get_or bs i 0 * 256 + get_or bs (i + 1) 0) / 2 ^ (8 - r) % 2 ^ w
two_bytes bs o w i r e h l j =
    let x = num (take i bs) in
    let a : 8 + r + (8 - r) ≡ 16 = omega arith in
    ends_in bs o w (i + 1) r (8 + r) x _ e h l (omega (arith, num_more bs i j, ap (λ (k : ℕ). x * 2 ^ k) a))

-- a field of at most 16 bits, and a few more, that ends at the bit 8 * (i + 2) + r
pub three_bytes : (bs : List ℕ) (o w i r : ℕ) → o + w ≡ 8 * (i + 2) + r → r < 8 → w ≤ 16 + r → i + 1 < length bs →
    field_at bs o w ≡ ((get_or bs i 0 * 256 + get_or bs (i + 1) 0) * 256 + get_or bs (i + 2) 0) / 2 ^ (8 - r) % 2 ^ w
three_bytes bs o w i r e h l j =
    let x = num (take i bs) in
    let a : 16 + r + (8 - r) ≡ 24 = omega arith in
    let two : i + 1 + 1 ≡ i + 2 = omega arith in
    let n : num (take (i + 2) bs) ≡ num (take (i + 1) bs) * 256 + get_or bs (i + 1) 0 = ap (λ (k : ℕ). num (take k bs)) (sym two) ∙ num_more bs (i + 1) j in
    ends_in bs o w (i + 2) r (16 + r) x _ e h l (omega (arith, num_more bs i (omega arith), n, ap (λ (k : ℕ). x * 2 ^ k) a))
