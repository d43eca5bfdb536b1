-- Bits into bytes: what is inked, one step further.
use Rattle.std.proofs.Common.{◌≡◌, ℕ, zero, suc, ◌+◌, ◌*◌, ◌/◌, ◌%◌, ◌^◌, ◌<◌, List, [], ◌∷◌, ◌++◌, take, drop, sym, refl, ap, ◌∙◌, subst, ap₂, mul_assoc, mul_comm, add-mul, add-zero, arith}
use native.Mathlib.Nat.{add-suc, mul-add-div_right, mul-add-mod_self_right}
use Rattle.std.proofs.lemmas.Nat.{pow-add, pow_pos, mul-add-lt, mod_below, shr_split, shr_high, mod_low, div_below}
use Rattle.std.proofs.lemmas.List.{append_assoc, append-nil, take_at, drop_at, drop-drop}
use Rattle.format.specs.Fields.{bytes_of}
use Rattle.format.proofs.Bytes.{length_bytes, bytes_more}
use Rattle.writer.specs.Ink.{Inked}

pub ink_none : (old : List ℕ) → Inked old 0 0 old 0 0 0
unfolding bytes_of
ink_none old = record { text = refl; rest = refl; sized = refl }

-- what is spelt, with its whole bytes apart
parted : (v c w x : ℕ) → v * 2 ^ w + x ≡ v / 2 ^ c * 2 ^ (c + w) + (v % 2 ^ c * 2 ^ w + x)
parted v c w x =
    let q = v / 2 ^ c in
    let h = v % 2 ^ c in
    let a : v * 2 ^ w ≡ (q * 2 ^ c + h) * 2 ^ w = ap (λ (k : ℕ). k * 2 ^ w) (sym (shr_split v c)) in
    let b : (q * 2 ^ c + h) * 2 ^ w ≡ q * 2 ^ c * 2 ^ w + h * 2 ^ w = add-mul (q * 2 ^ c) h (2 ^ w) in
    let d : q * 2 ^ c * 2 ^ w ≡ q * (2 ^ c * 2 ^ w) = mul_assoc q (2 ^ c) (2 ^ w) in
    let e : q * 2 ^ (c + w) ≡ q * (2 ^ c * 2 ^ w) = ap (λ (k : ℕ). q * k) (pow-add 2 c w) in
    omega arith

-- bits held and the bits of a field after them
pub wide_below : (h c w x : ℕ) → h < 2 ^ c → x < 2 ^ w → h * 2 ^ w + x < 2 ^ (c + w)
wide_below h c w x l k =
    let a : h * 2 ^ w + x < 2 ^ w * 2 ^ c = mul-add-lt h (2 ^ w) x (2 ^ c) l k in
    subst (λ (n : ℕ). h * 2 ^ w + x < n) (mul_comm (2 ^ w) (2 ^ c) ∙ sym (pow-add 2 c w)) a

pub ink_keep : (old : List ℕ) (v s : ℕ) (buf : List ℕ) (at held count w x : ℕ) → Inked old v s buf at held count → x < 2 ^ w → Inked old (v * 2 ^ w + x) (s + w) buf at (held * 2 ^ w + x) (count + w)
ink_keep old v s buf at held count w x i l =
    let low : v % 2 ^ count * 2 ^ w + x < 2 ^ (count + w) = wide_below (v % 2 ^ count) count w x (mod_below v (2 ^ count) (pow_pos count)) l in
    let e = parted v count w x in
    record {
      text = i.text ∙ ap (λ (k : ℕ). bytes_of at k ++ drop at old) (sym (ap (λ (k : ℕ). k / 2 ^ (count + w)) e ∙ shr_high (v / 2 ^ count) (count + w) _ low));
      rest = ap (λ (k : ℕ). k * 2 ^ w + x) i.rest ∙ sym (ap (λ (k : ℕ). k % 2 ^ (count + w)) e ∙ mod_low (v / 2 ^ count) (count + w) _ low);
      sized = omega (arith, i.sized);
    }

-- the bytes of a number whose low bytes are apart
bytes_join : (a n q r : ℕ) → r < 2 ^ (8 * n) → bytes_of (a + n) (q * 2 ^ (8 * n) + r) ≡ bytes_of a q ++ bytes_of n r
unfolding bytes_of
bytes_join a zero q r l =
    let e : q * 2 ^ (8 * 0) + r ≡ q = omega arith in
    ap₂ bytes_of (add-zero a) e ∙ sym (append-nil (bytes_of a q))
bytes_join a (suc n) q r l =
    let k = 2 ^ (8 * n) in
    let i : 8 * suc n ≡ 8 * n + 8 = omega arith in
    let p : 2 ^ (8 * suc n) ≡ k * 256 = ap (λ (i : ℕ). 2 ^ i) i ∙ pow-add 2 (8 * n) 8 in
    let d : q * 2 ^ (8 * suc n) ≡ q * k * 256 = ap (λ (i : ℕ). q * i) p ∙ sym (mul_assoc q k 256) in
    let e : q * 2 ^ (8 * suc n) + r ≡ (q * k + r / 256) * 256 + r % 256 = omega (arith, d) in
    let small : r / 256 < k = div_below r 256 k (omega arith) (subst (λ (m : ℕ). r < m) p l) in
    ap₂ bytes_of (add-suc a n) e
    ∙ bytes_more (a + n) (q * k + r / 256) (r % 256) (mod_below r 256 (omega arith))
    ∙ ap (λ (x : List ℕ). x ++ r % 256 ∷ []) (bytes_join a n q (r / 256) small)
    ∙ append_assoc (bytes_of a q) (bytes_of n (r / 256)) (r % 256 ∷ [])

-- n whole bytes out
pub ink_out : (old : List ℕ) (v s : ℕ) (buf : List ℕ) (at wide n left : ℕ) → Inked old v s buf at wide (8 * n + left) →
    Inked old v s (take at buf ++ (bytes_of n (wide / 2 ^ left) ++ drop (at + n) buf)) (at + n) (wide % 2 ^ left) left
ink_out old v s buf at wide n left i =
    let q = v / 2 ^ (8 * n + left) in
    let h = v % 2 ^ (8 * n + left) in
    let k = 2 ^ (8 * n) in
    let p : 2 ^ (8 * n + left) ≡ k * 2 ^ left = pow-add 2 (8 * n) left in
    let e : v ≡ (q * k) * 2 ^ left + h = sym (shr_split v (8 * n + left)) ∙ ap (λ (m : ℕ). q * m + h) p ∙ ap (λ (m : ℕ). m + h) (sym (mul_assoc q k (2 ^ left))) in
    let d : v / 2 ^ left ≡ q * k + h / 2 ^ left = ap (λ (m : ℕ). m / 2 ^ left) e ∙ mul-add-div_right (pow_pos left) (q * k) h in
    let m : v % 2 ^ left ≡ h % 2 ^ left = ap (λ (m : ℕ). m % 2 ^ left) e ∙ mul-add-mod_self_right (q * k) (2 ^ left) h in
    let small : h / 2 ^ left < k = div_below h (2 ^ left) k (pow_pos left) (subst (λ (m : ℕ). h < m) p (mod_below v (2 ^ (8 * n + left)) (pow_pos (8 * n + left)))) in
    let byte : wide / 2 ^ left ≡ h / 2 ^ left = ap (λ (m : ℕ). m / 2 ^ left) i.rest in
    let front = bytes_of at q in
    let ready = bytes_of n (wide / 2 ^ left) in
    let more : front ++ ready ≡ bytes_of (at + n) (v / 2 ^ left) =
    ap (λ (m : ℕ). front ++ bytes_of n m) byte ∙ sym (bytes_join at n q (h / 2 ^ left) small) ∙ ap (bytes_of (at + n)) (sym d) in
    let before : take at buf ≡ front = ap (take at) i.text ∙ take_at front (drop at old) at (length_bytes at q) in
    let after : drop (at + n) buf ≡ drop (at + n) old =
    sym (drop-drop n at buf) ∙ ap (λ (b : List ℕ). drop n (drop at b)) i.text ∙ ap (drop n) (drop_at front (drop at old) at (length_bytes at q)) ∙ drop-drop n at old in
    record {
      text = ap₂ (λ (x y : List ℕ). x ++ (ready ++ y)) before after
          ∙ sym (append_assoc front ready (drop (at + n) old))
          ∙ ap (λ (x : List ℕ). x ++ drop (at + n) old) more;
      rest = ap (λ (m : ℕ). m % 2 ^ left) i.rest ∙ sym m;
      sized = omega (arith, i.sized);
    }

-- what is inked with other names for its parts
pub ink_as : {old : List ℕ} {v s : ℕ} {buf buf' : List ℕ} {at at' held held' count count' : ℕ} → buf' ≡ buf → at' ≡ at → held' ≡ held → count' ≡ count → Inked old v s buf at held count → Inked old v s buf' at' held' count'
ink_as {old} {v} a b c d i = record {
  text = a ∙ i.text ∙ ap₂ (λ (n k : ℕ). bytes_of n (v / 2 ^ k) ++ drop n old) (sym b) (sym d);
  rest = c ∙ i.rest ∙ ap (λ (k : ℕ). v % 2 ^ k) (sym d);
  sized = omega (arith, i.sized, b, d);
}

-- the same bits with their number said another way
pub resized : {old : List ℕ} {v s k : ℕ} {buf : List ℕ} {at held count : ℕ} → s ≡ k → Inked old v s buf at held count → Inked old v k buf at held count
resized e i = record { text = i.text; rest = i.rest; sized = i.sized ∙ e }
