use Rattle.std.proofs.Common.{rules, ◌≡◌, ℕ, ◌-◌, ◌*◌, ◌%◌, ◌^◌, ◌<◌, ◌≤◌, List, length, get_or, sym, ap, ap₂, ◌∙◌, arith}
use lib.Bits.{bit_and}
use Rattle.std.proofs.lemmas.Nat.{one_shl, and_mask}
use Rattle.format.specs.Fields.{bytes_for, fill_for}
use Rattle.format.specs.Sheets.{sheet_refusal, row_at, bits_of, fill_of}
use Rattle.format.proofs.Refusals.{rest5, rest6, pass1, pass2, pass3, pass5, pass6, pass7, pass_head, stop1, stop2, stop3, stop4, stop5, stop6, stop7}
use Rattle.reader.specs.Heads.{HeadOf}
use Rattle.reader.specs.Refusals.{refusal_of}
use Rattle.reader.specs.declared.head.Head.{Head}
use Rattle.reader.proofs.check.check.Goals as goal

-- the bytes begin with the head h, which passes; the code has the number of bits and the number n of bytes that they take
module _ (bs : List ℕ) (h : Head) (is : HeadOf bs h) (form : h.form ≡ 1) (places : h.places ≤ 64) (transitions : h.transitions ≤ 128)
    (bits n : ℕ) (at : bits ≡ row_at h.places h.transitions) (taken : n ≡ bytes_for bits) where
  bits_are : bits ≡ bits_of bs
  bits_are = at ∙ ap₂ row_at is.places is.transitions

  bytes_are : n ≡ bytes_for (bits_of bs)
  bytes_are = taken ∙ ap bytes_for bits_are

  headed : sheet_refusal bs ≡ rest5 bs
  headed = pass_head bs is.long (sym is.form ∙ form) (omega (arith, is.places)) (omega (arith, is.transitions))

  sized : length bs ≡ n → sheet_refusal bs ≡ rest6 bs
  sized l = headed ∙ pass5 bs (l ∙ bytes_are)

  -- the fill, as the code has it
  fill_is : length bs ≡ n → bit_and (get_or bs (n - 1) 0) ((1 * 2 ^ (8 * n - bits)) % 256 - 1) ≡ fill_of bs
  fill_is l =
      let f = fill_for bits in
      ap₂ (λ (k m : ℕ). bit_and (get_or bs (k - 1) 0) ((1 * 2 ^ (8 * m - bits)) % 256 - 1)) (sym l) taken
      ∙ ap (λ (k : ℕ). bit_and (get_or bs (length bs - 1) 0) (k - 1)) (one_shl f 8 (omega arith))
      ∙ and_mask (get_or bs (length bs - 1) 0) f
      ∙ ap (λ (k : ℕ). get_or bs (length bs - 1) 0 % 2 ^ fill_for k) bits_are

pub returns-in_err-head-clause-refusal : goal.returns-in_err-head-clause-refusal
returns-in_err-head-clause-refusal c =
    let h : length c.args.bytes.now < 3 = search rules in
    let e : refusal_of c.from_residual.result ≡ 1 = search rules in
    e ∙ sym (stop1 c.args.bytes.now h)

pub returns-then-head-ne-FORM-clause-refusal : goal.returns-then-head-ne-FORM-clause-refusal
returns-then-head-ne-FORM-clause-refusal c =
    let bs = c.args.bytes.now in
    let is : HeadOf bs c.in_ok-head.head = search rules in
    sym (pass1 bs is.long ∙ stop2 bs (λ e. c.if-head-ne-FORM.true (is.form ∙ e)))

pub returns-then-head-gt-MOST_PLACES-clause-refusal : goal.returns-then-head-gt-MOST_PLACES-clause-refusal
returns-then-head-gt-MOST_PLACES-clause-refusal c =
    let bs = c.args.bytes.now in
    let is : HeadOf bs c.in_ok-head.head = search rules in
    sym (pass1 bs is.long ∙ pass2 bs (sym is.form ∙ c.if-head-ne-FORM.false) ∙ stop3 bs (omega (arith, is.places)))

pub returns-then-head-gt-MOST_TRANSITIONS-clause-refusal : goal.returns-then-head-gt-MOST_TRANSITIONS-clause-refusal
returns-then-head-gt-MOST_TRANSITIONS-clause-refusal c =
    let bs = c.args.bytes.now in
    let is : HeadOf bs c.in_ok-head.head = search rules in
    sym (pass1 bs is.long ∙ pass2 bs (sym is.form ∙ c.if-head-ne-FORM.false) ∙ pass3 bs (omega (arith, is.places)) ∙ stop4 bs (omega (arith, is.transitions)))

pub returns-then-bytes-length-clause-refusal : goal.returns-then-bytes-length-clause-refusal
returns-then-bytes-length-clause-refusal c =
    let bs = c.args.bytes.now in
    let is : HeadOf bs c.in_ok-head.head = search rules in
    let b = bytes_are bs _ is c.if-head-ne-FORM.false (omega arith) (omega arith) _ c.div_ceil-length.result c.bits-bits.ensures.bits (omega arith) in
    sym (headed bs _ is c.if-head-ne-FORM.false (omega arith) (omega arith) _ c.div_ceil-length.result c.bits-bits.ensures.bits (omega arith) ∙ stop5 bs (λ h. c.if-bytes-length.true (h ∙ sym b)))

pub returns-then-not-all_light-clause-refusal : goal.returns-then-not-all_light-clause-refusal
returns-then-not-all_light-clause-refusal c =
    let bs = c.args.bytes.now in
    let is : HeadOf bs c.in_ok-head.head = search rules in
    sym (sized bs _ is c.if-head-ne-FORM.false (omega arith) (omega arith) _ c.div_ceil-length.result c.bits-bits.ensures.bits (omega arith) c.if-bytes-length.false ∙ stop6 bs (sym c.all_light.ensures ∙ c.if-not-all_light.true))

pub returns-then-bytes-length-ne0-clause-refusal : goal.returns-then-bytes-length-ne0-clause-refusal
returns-then-bytes-length-ne0-clause-refusal c =
    let bs = c.args.bytes.now in
    let is : HeadOf bs c.in_ok-head.head = search rules in
    let fill = fill_is bs _ is c.if-head-ne-FORM.false (omega arith) (omega arith) _ c.div_ceil-length.result c.bits-bits.ensures.bits (omega arith) c.if-bytes-length.false in
    sym (sized bs _ is c.if-head-ne-FORM.false (omega arith) (omega arith) _ c.div_ceil-length.result c.bits-bits.ensures.bits (omega arith) c.if-bytes-length.false
    ∙ pass6 bs (sym c.all_light.ensures ∙ c.if-not-all_light.false) ∙ stop7 bs (λ h. c.if-bytes-length-ne0.true (fill ∙ h)))

pub returns-clause-refusal : goal.returns-clause-refusal
returns-clause-refusal c =
    let bs = c.args.bytes.now in
    let is : HeadOf bs c.in_ok-head.head = search rules in
    let fill = fill_is bs _ is c.if-head-ne-FORM.false (omega arith) (omega arith) _ c.div_ceil-length.result c.bits-bits.ensures.bits (omega arith) c.if-bytes-length.false in
    sym (sized bs _ is c.if-head-ne-FORM.false (omega arith) (omega arith) _ c.div_ceil-length.result c.bits-bits.ensures.bits (omega arith) c.if-bytes-length.false
    ∙ pass6 bs (sym c.all_light.ensures ∙ c.if-not-all_light.false) ∙ pass7 bs (sym fill ∙ c.if-bytes-length-ne0.false))
