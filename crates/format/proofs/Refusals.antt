-- The bytes that no condition refuses are the lawful sheets.
use Rattle.std.proofs.Common.{◌≡◌, ℕ, ◌*◌, ◌<◌, ◌≤◌, Bool, true, false, cond, not, eqb, ltb, leb, List, length, refl, ◌∙◌, arith}
use Rattle.std.proofs.lemmas.Bool.{cond-true, cond-false, and_from, and_parts, lt-ltb, le-ltb, le-leb, ltb-false, leb-true, eqb-true, eq-eqb, ne_eqb, not-false, not_from_true, not_from_false}
use Rattle.finite.proofs.Tests.{all_at, all_from}
use Rattle.format.specs.Fields.{bytes_for}
use Rattle.format.specs.Sheets.{form_of, places_of, transitions_of, bits_of, size_at, light_at, light_rows, fill_of, LawfulSheet, sheet_refusal}

-- the conditions in their order: each `rest` is what is left of them
abbrev pub rest7 : List ℕ → ℕ
rest7 bs = cond (not (eqb (fill_of bs) 0)) 7 0

abbrev pub rest6 : List ℕ → ℕ
rest6 bs = cond (not (light_rows bs)) 6 (rest7 bs)

abbrev pub rest5 : List ℕ → ℕ
rest5 bs = cond (not (eqb (length bs) (bytes_for (bits_of bs)))) 5 (rest6 bs)

abbrev pub rest4 : List ℕ → ℕ
rest4 bs = cond (ltb 128 (transitions_of bs)) 4 (rest5 bs)

abbrev pub rest3 : List ℕ → ℕ
rest3 bs = cond (ltb 64 (places_of bs)) 3 (rest4 bs)

abbrev pub rest2 : List ℕ → ℕ
rest2 bs = cond (not (eqb (form_of bs) 1)) 2 (rest3 bs)

module _ (bs : List ℕ) where
  pub pass1 : 3 ≤ length bs → sheet_refusal bs ≡ rest2 bs
  unfolding sheet_refusal
  pass1 h = cond-false (ltb (length bs) 3) 1 (rest2 bs) (le-ltb (length bs) 3 h)

  pub pass2 : form_of bs ≡ 1 → rest2 bs ≡ rest3 bs
  pass2 h = cond-false (not (eqb (form_of bs) 1)) 2 (rest3 bs) (not_from_true _ (eq-eqb (form_of bs) 1 h))

  pub pass3 : places_of bs ≤ 64 → rest3 bs ≡ rest4 bs
  pass3 h = cond-false (ltb 64 (places_of bs)) 3 (rest4 bs) (le-ltb 64 (places_of bs) h)

  pub pass4 : transitions_of bs ≤ 128 → rest4 bs ≡ rest5 bs
  pass4 h = cond-false (ltb 128 (transitions_of bs)) 4 (rest5 bs) (le-ltb 128 (transitions_of bs) h)

  pub pass5 : length bs ≡ bytes_for (bits_of bs) → rest5 bs ≡ rest6 bs
  pass5 h = cond-false (not (eqb (length bs) (bytes_for (bits_of bs)))) 5 (rest6 bs) (not_from_true _ (eq-eqb (length bs) (bytes_for (bits_of bs)) h))

  pub pass6 : light_rows bs ≡ true → rest6 bs ≡ rest7 bs
  pass6 h = cond-false (not (light_rows bs)) 6 (rest7 bs) (not_from_true _ h)

  pub pass7 : fill_of bs ≡ 0 → rest7 bs ≡ 0
  pass7 h = cond-false (not (eqb (fill_of bs) 0)) 7 0 (not_from_true _ (eq-eqb (fill_of bs) 0 h))

  -- the conditions on the head
  pub pass_head : 3 ≤ length bs → form_of bs ≡ 1 → places_of bs ≤ 64 → transitions_of bs ≤ 128 → sheet_refusal bs ≡ rest5 bs
  pass_head h f p t = pass1 h ∙ pass2 f ∙ pass3 p ∙ pass4 t

  pub stop1 : length bs < 3 → sheet_refusal bs ≡ 1
  unfolding sheet_refusal
  stop1 h = cond-true (ltb (length bs) 3) 1 (rest2 bs) (lt-ltb (length bs) 3 h)

  pub stop2 : (form_of bs ≡ 1 → ⊥) → rest2 bs ≡ 2
  stop2 h = cond-true (not (eqb (form_of bs) 1)) 2 (rest3 bs) (not_from_false _ (ne_eqb (form_of bs) 1 h))

  pub stop3 : 64 < places_of bs → rest3 bs ≡ 3
  stop3 h = cond-true (ltb 64 (places_of bs)) 3 (rest4 bs) (lt-ltb 64 (places_of bs) h)

  pub stop4 : 128 < transitions_of bs → rest4 bs ≡ 4
  stop4 h = cond-true (ltb 128 (transitions_of bs)) 4 (rest5 bs) (lt-ltb 128 (transitions_of bs) h)

  pub stop5 : (length bs ≡ bytes_for (bits_of bs) → ⊥) → rest5 bs ≡ 5
  stop5 h = cond-true (not (eqb (length bs) (bytes_for (bits_of bs)))) 5 (rest6 bs) (not_from_false _ (ne_eqb (length bs) (bytes_for (bits_of bs)) h))

  pub stop6 : light_rows bs ≡ false → rest6 bs ≡ 6
  stop6 h = cond-true (not (light_rows bs)) 6 (rest7 bs) (not_from_false _ h)

  pub stop7 : (fill_of bs ≡ 0 → ⊥) → rest7 bs ≡ 7
  stop7 h = cond-true (not (eqb (fill_of bs) 0)) 7 0 (not_from_false _ (ne_eqb (fill_of bs) 0 h))

-- sizes within the limit, as one test and by the transition
pub rows_light : (bs : List ℕ) → ((t : ℕ) → t < transitions_of bs → size_at bs (places_of bs) 0 t ≤ 255) → ((t : ℕ) → t < transitions_of bs → size_at bs (places_of bs) (8 * places_of bs) t ≤ 255) → light_rows bs ≡ true
rows_light bs c e = all_from (transitions_of bs) (light_at bs (places_of bs)) (λ t h. and_from _ _ (le-leb _ 255 (c t h)) (le-leb _ 255 (e t h)))

row_light : (bs : List ℕ) → light_rows bs ≡ true → (t : ℕ) → t < transitions_of bs → (size_at bs (places_of bs) 0 t ≤ 255) × (size_at bs (places_of bs) (8 * places_of bs) t ≤ 255)
row_light bs e t h =
    let b = and_parts (leb (size_at bs (places_of bs) 0 t) 255) (leb (size_at bs (places_of bs) (8 * places_of bs) t) 255) (all_at (transitions_of bs) (light_at bs (places_of bs)) e t h) in
    (leb-true _ 255 b.0, leb-true _ 255 b.1)

passed : (b : Bool) (n k : ℕ) → 0 < n → cond b n k ≡ 0 → (b ≡ false) × (k ≡ 0)
passed true n k l e = absurd (omega arith)
passed false n k l e = (refl, e)

pub lawful_sheet : (bs : List ℕ) → sheet_refusal bs ≡ 0 → LawfulSheet bs
unfolding sheet_refusal
lawful_sheet bs e =
    let a = passed (ltb (length bs) 3) 1 (rest2 bs) (omega arith) e in
    let b = passed (not (eqb (form_of bs) 1)) 2 (rest3 bs) (omega arith) a.1 in
    let c = passed (ltb 64 (places_of bs)) 3 (rest4 bs) (omega arith) b.1 in
    let d = passed (ltb 128 (transitions_of bs)) 4 (rest5 bs) (omega arith) c.1 in
    let f = passed (not (eqb (length bs) (bytes_for (bits_of bs)))) 5 (rest6 bs) (omega arith) d.1 in
    let g = passed (not (light_rows bs)) 6 (rest7 bs) (omega arith) f.1 in
    let h = passed (not (eqb (fill_of bs) 0)) 7 0 (omega arith) g.1 in
    let light : light_rows bs ≡ true = not-false _ g.0 in
    record {
      long = ltb-false (length bs) 3 a.0;
      form = eqb-true (form_of bs) 1 (not-false _ b.0);
      places = ltb-false 64 (places_of bs) c.0;
      transitions = ltb-false 128 (transitions_of bs) d.0;
      sized = eqb-true (length bs) (bytes_for (bits_of bs)) (not-false _ f.0);
      causes = λ t l. (row_light bs light t l).0;
      effects = λ t l. (row_light bs light t l).1;
      filled = eqb-true (fill_of bs) 0 (not-false _ h.0);
    }

pub unrefused : (bs : List ℕ) → LawfulSheet bs → sheet_refusal bs ≡ 0
unrefused bs s =
    pass_head bs s.long s.form s.places s.transitions ∙ pass5 bs s.sized
    ∙ pass6 bs (rows_light bs s.causes s.effects) ∙ pass7 bs s.filled
