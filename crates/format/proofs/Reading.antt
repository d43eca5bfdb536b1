-- The net of a lawful sheet has that sheet.
use Rattle.std.proofs.Common.{◌≡◌, ℕ, ◌+◌, ◌-◌, ◌*◌, ◌/◌, ◌%◌, ◌^◌, ◌<◌, ◌≤◌, ltb, List, [], ◌∷◌, ◌++◌, length, get_or, take, sym, refl, ap, ◌∙◌, subst, ap₂, add-zero, mul_assoc, arith}
use native.Mathlib.Nat.{mul-add-mod_self_right}
use Rattle.std.specs.List.{AllByRecursion}
use Rattle.std.proofs.lemmas.Nat.{pow-add, shr_split}
use Rattle.std.proofs.ByRecursion.{All-from_get_or}
use Rattle.std.proofs.lemmas.List.{take_more, take_all}
use Rattle.std.proofs.lemmas.Bool.{cond-true, lt-ltb}
use Rattle.format.specs.Fields.{size, spelt, number, num, packed, bytes_of, bytes_for, fill_for, first, field_at}
use Rattle.format.specs.Sheets.{net_of, sheet_of, fields_of, labels_of, rows_of, row_of, weights_of, places_of, transitions_of, bits_of, row_at, weight_at, LawfulSheet, sheet_refusal}
use Rattle.format.proofs.Bytes.{num_push, bytes_back}
use Rattle.format.proofs.Holding.{Holds, holds_join, holds_each, field_holds, first_num, first_none}
use Rattle.format.proofs.Sizes.{size_same, size_row, size_fields, row_inside}
use Rattle.format.proofs.Refusals.{lawful_sheet}
use Rattle.format.proofs.Nets.{weight_in}

-- the fill bits are those of the last byte
pub fill_last : (bs : List ℕ) (f : ℕ) → 0 < length bs → f ≤ 8 → num bs % 2 ^ f ≡ get_or bs (length bs - 1) 0 % 2 ^ f
fill_last bs f l h =
    let i = length bs - 1 in
    let x = num (take i bs) in
    let b = get_or bs i 0 in
    let e : i + 1 ≡ length bs = omega arith in
    let whole : bs ≡ take i bs ++ b ∷ [] = sym (take_all (length bs) bs (omega arith)) ∙ ap (λ (k : ℕ). take k bs) (sym e) ∙ take_more bs i 0 (omega arith) in
    let g : 8 - f + f ≡ 8 = omega arith in
    let p : 256 ≡ 2 ^ (8 - f) * 2 ^ f = ap (λ (k : ℕ). 2 ^ k) (sym g) ∙ pow-add 2 (8 - f) f in
    ap (λ (k : ℕ). k % 2 ^ f) (ap num whole ∙ num_push (take i bs) b ∙ ap (λ (k : ℕ). x * k + b) p ∙ ap (λ (k : ℕ). k + b) (sym (mul_assoc x (2 ^ (8 - f)) (2 ^ f))))
    ∙ mul-add-mod_self_right (x * 2 ^ (8 - f)) (2 ^ f) b

module _ (bs : List ℕ) (small : AllByRecursion (λ b. b < 256) bs) (s : LawfulSheet bs) where
  room : row_at (places_of bs) (transitions_of bs) ≤ 8 * length bs
  room = omega (arith, s.sized)

  weights : (skip t o : ℕ) → t < transitions_of bs → o ≡ row_at (places_of bs) t + 10 + skip → o + 8 * places_of bs ≤ 8 * length bs → Holds bs o (weights_of (weight_at bs skip t) (places_of bs))
  unfolding size
  weights skip t o h e l = holds_each bs o 8 (λ p. (8, weight_at bs skip t p) ∷ []) (places_of bs) (λ p k. refl)
      (λ p k. let at : o + p * 8 ≡ row_at (places_of bs) t + 10 + skip + 8 * p = omega arith in
      field_holds bs small (o + p * 8) 8 (weight_at bs skip t p) (omega arith) (ap (λ (x : ℕ). field_at bs x 8) at ∙ sym (weight_in bs skip t p h k)))

  row : (t : ℕ) → t < transitions_of bs → Holds bs (19 + 10 * places_of bs + t * (10 + 16 * places_of bs)) (row_of (net_of bs) t)
  unfolding size
  row t h =
      let o = 19 + 10 * places_of bs + t * (10 + 16 * places_of bs) in
      let inside = row_inside (places_of bs) t (transitions_of bs) h in
      let c = weights_of (weight_at bs 0 t) (places_of bs) in
      let sc : size c ≡ places_of bs * 8 = size_same 8 (weight_at bs 0 t) (places_of bs) in
      holds_join bs o ((10, (net_of bs).transition_label t) ∷ []) (c ++ weights_of (weight_at bs (8 * places_of bs) t) (places_of bs))
      (field_holds bs small o 10 _ (omega (arith, room)) (sym (cond-true (ltb t (transitions_of bs)) _ 0 (lt-ltb t (transitions_of bs) h))))
      (holds_join bs (o + 10) c (weights_of (weight_at bs (8 * places_of bs) t) (places_of bs))
      (weights 0 t (o + 10) h (omega arith) (omega (arith, room)))
      (weights (8 * places_of bs) t (o + 10 + size c) h (omega arith) (omega (arith, room))))

  all : Holds bs 0 (fields_of (net_of bs))
  unfolding size
  all =
      let sl : size (labels_of (net_of bs)) ≡ places_of bs * 10 = size_same 10 (net_of bs).place_label (places_of bs) in
      let at : 19 + 10 * places_of bs ≡ 19 + size (labels_of (net_of bs)) = omega arith in
      holds_join bs 0 ((4, 1) ∷ []) _ (field_holds bs small 0 4 1 (omega (arith, room)) s.form)
      (holds_join bs 4 ((7, places_of bs) ∷ []) _ (field_holds bs small 4 7 _ (omega (arith, room)) refl)
      (holds_join bs 11 ((8, transitions_of bs) ∷ []) _ (field_holds bs small 11 8 _ (omega (arith, room)) refl)
      (holds_join bs 19 (labels_of (net_of bs)) (rows_of (net_of bs))
      (holds_each bs 19 10 (λ p. (10, (net_of bs).place_label p) ∷ []) (places_of bs) (λ p k. refl)
      (λ p k. let at : 19 + p * 10 ≡ 19 + 10 * p = omega arith in
      field_holds bs small (19 + p * 10) 10 ((net_of bs).place_label p) (omega (arith, room)) (ap (λ (x : ℕ). field_at bs x 10) at ∙ sym (cond-true (ltb p (places_of bs)) _ 0 (lt-ltb p (places_of bs) k)))))
      (subst (λ (x : ℕ). Holds bs x (rows_of (net_of bs))) at
      (holds_each bs (19 + 10 * places_of bs) (10 + 16 * places_of bs) (row_of (net_of bs)) (transitions_of bs) (λ t k. size_row (net_of bs) t) row)))))

  pub sheet_again : sheet_of (net_of bs) ≡ bs
  unfolding packed
  sheet_again =
      let fs = fields_of (net_of bs) in
      let z : size fs ≡ bits_of bs = size_fields (net_of bs) in
      let f = fill_for (bits_of bs) in
      let v : number fs ≡ first bs (bits_of bs) = ap (λ (k : ℕ). spelt k fs) (sym (first_none bs small)) ∙ all ∙ ap (first bs) (omega arith) in
      let g : 8 * length bs - bits_of bs ≡ f = omega (arith, s.sized) in
      let q : first bs (bits_of bs) ≡ num bs / 2 ^ f = first_num bs small (bits_of bs) room ∙ ap (λ (k : ℕ). num bs / 2 ^ k) g in
      let r : num bs % 2 ^ f ≡ 0 = fill_last bs f (omega (arith, s.long)) (omega arith) ∙ s.filled in
      let whole : number fs * 2 ^ f ≡ num bs = ap (λ (k : ℕ). k * 2 ^ f) (v ∙ q) ∙ sym (add-zero _) ∙ ap (λ (k : ℕ). num bs / 2 ^ f * 2 ^ f + k) (sym r) ∙ shr_split (num bs) f in
      ap (λ (k : ℕ). bytes_of (bytes_for k) (number fs * 2 ^ fill_for k)) z
      ∙ ap₂ bytes_of (sym s.sized) whole
      ∙ bytes_back bs small

pub sheet_whole : (bs : List ℕ) → ((i : ℕ) → get_or bs i 0 < 256) → sheet_refusal bs ≡ 0 → sheet_of (net_of bs) ≡ bs
sheet_whole bs h e = sheet_again bs (All-from_get_or (λ b. b < 256) bs 0 (λ i l. h i)) (lawful_sheet bs e)
