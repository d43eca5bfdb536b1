-- A field, from the two or three bytes in the first of which it begins.
use Rattle.std.proofs.Common.{◌≡◌, ℕ, ◌+◌, ◌-◌, ◌*◌, ◌/◌, ◌%◌, ◌^◌, ◌<◌, ◌≤◌, List, length, get_or, ⊎_elim, sym, ap, ◌∙◌, arith}
use Rattle.std.proofs.Math.Nat.{div-div-eq-div-mul}
use Rattle.std.proofs.lemmas.Nat.{pow-add, div-mul-add}
use Rattle.std.proofs.lemmas.Bool.{cases_lt}
use Rattle.format.specs.Fields.{field_at}
use Rattle.format.proofs.Windows.{one_byte, two_bytes, three_bytes}

-- a last byte that is shifted out does not count
shifted_out : (x b d : ℕ) → b < 256 → (x * 256 + b) / 2 ^ (8 + d) ≡ x / 2 ^ d
shifted_out x b d h =
    ap (λ (k : ℕ). (x * 256 + b) / k) (pow-add 2 8 d) ∙ sym (div-div-eq-div-mul (x * 256 + b) 256 (2 ^ d))
    ∙ ap (λ (k : ℕ). k / 2 ^ d) (div-mul-add x 256 b h)

module _ (bs : List ℕ) (whole : (k : ℕ) → get_or bs k 0 < 256) where
  -- a field that ends within the second byte
  pub from_two : (o w : ℕ) → o % 8 + w < 16 → o + w ≤ 8 * length bs →
      (get_or bs (o / 8) 0 * 256 + get_or bs (o / 8 + 1) 0) / 2 ^ (16 - w - o % 8) % 2 ^ w ≡ field_at bs o w
  from_two o w h l =
      let i = o / 8 in
      let e = o % 8 + w in
      let a = get_or bs i 0 in
      let b = get_or bs (i + 1) 0 in
      ⊎_elim
      (λ (n : e < 8).
      let d : 16 - w - o % 8 ≡ 8 + (8 - e) = omega arith in
      ap (λ (k : ℕ). (a * 256 + b) / 2 ^ k % 2 ^ w) d
      ∙ ap (λ (k : ℕ). k % 2 ^ w) (shifted_out a b (8 - e) (whole (i + 1)))
      ∙ sym (one_byte bs o w i e (omega arith) n (omega arith)))
      (λ (m : 8 ≤ e).
      let d : 16 - w - o % 8 ≡ 8 - (e - 8) = omega arith in
      ap (λ (k : ℕ). (a * 256 + b) / 2 ^ k % 2 ^ w) d
      ∙ sym (two_bytes bs o w i (e - 8) (omega arith) (omega arith) (omega arith) (omega arith)))
      (cases_lt e 8)

  -- a field of at most 16 bits
  pub from_three : (o w : ℕ) → w ≤ 16 → o + w ≤ 8 * length bs →
      ((get_or bs (o / 8) 0 * 256 + get_or bs (o / 8 + 1) 0) * 256 + get_or bs (o / 8 + 2) 0) / 2 ^ (24 - w - o % 8) % 2 ^ w ≡ field_at bs o w
  from_three o w h l =
      let i = o / 8 in
      let e = o % 8 + w in
      let x = get_or bs i 0 * 256 + get_or bs (i + 1) 0 in
      let b = get_or bs (i + 2) 0 in
      ⊎_elim
      (λ (n : e < 16).
      let d : 24 - w - o % 8 ≡ 8 + (16 - w - o % 8) = omega arith in
      ap (λ (k : ℕ). (x * 256 + b) / 2 ^ k % 2 ^ w) d
      ∙ ap (λ (k : ℕ). k % 2 ^ w) (shifted_out x b (16 - w - o % 8) (whole (i + 2)))
      ∙ from_two o w n l)
      (λ (m : 16 ≤ e).
      let d : 24 - w - o % 8 ≡ 8 - (e - 16) = omega arith in
      ap (λ (k : ℕ). (x * 256 + b) / 2 ^ k % 2 ^ w) d
      ∙ sym (three_bytes bs o w i (e - 16) (omega arith) (omega arith) (omega arith) (omega arith)))
      (cases_lt e 16)
