-- The sheet of a lawful net is lawful, and its net is that net.
use Rattle.std.proofs.Common.{◌≡◌, ℕ, ◌+◌, ◌-◌, ◌*◌, ◌/◌, ◌%◌, ◌^◌, ◌<◌, ◌≤◌, ltb, List, [], ◌∷◌, ◌++◌, length, get_or, sym, refl, ap, ◌∙◌, subst, ap₂, mod-eq_of_lt, arith}
use native.Mathlib.Nat.{mul-mod_left}
use Rattle.std.specs.List.{AllByRecursion}
use Rattle.std.proofs.lemmas.Nat.{shl_below, shl-shr}
use Rattle.std.proofs.lemmas.Bool.{cond-true, lt-ltb}
use Rattle.finite.specs.Below.{sum_below}
use Rattle.finite.proofs.Sums.{sum_same, term_le}
use Rattle.net.specs.Model.{Model, Lawful, SmallBags}
use Rattle.net.proofs.Agrees.{Agree, one_model}
use Rattle.format.specs.Fields.{Field, Fit, size, spelt, number, num, packed, bytes_for, fill_for, field_at}
use Rattle.format.specs.Sheets.{net_of, sheet_of, fields_of, labels_of, rows_of, row_of, weights_of, places_of, transitions_of, bits_of, row_at, weights_from, size_at, LawfulSheet, sheet_refusal}
use Rattle.format.proofs.Runs.{fit_append, fit_each, number_below}
use Rattle.format.proofs.Bytes.{bytes_small, num_bytes}
use Rattle.format.proofs.Holding.{Holds, holds_left, holds_right, holds_field, each_holds, first_num, first_none}
use Rattle.format.proofs.Sizes.{size_same, size_row, size_fields, length_packed, row_inside, sheet_room}
use Rattle.format.proofs.Refusals.{unrefused}
use Rattle.format.proofs.Nets.{lawful_net, weight_in}
use Rattle.format.proofs.Reading.{fill_last}

-- the fields of a lawful net fit
module _ (m : Model) (w : Lawful m) where
  fit_weights : (f : ℕ → ℕ) → sum_below m.places f ≤ 255 → Fit (weights_of f m.places)
  fit_weights f l = fit_each (λ p. (8, f p) ∷ []) m.places (λ p h. (omega (arith, term_le m.places f p h), tt))

  fit_row : (t : ℕ) → Fit (row_of m t)
  fit_row t = (omega (arith, w.transition_labels.0 t), fit_append (weights_of (m.cause t) m.places) (weights_of (m.effect t) m.places) (fit_weights (m.cause t) (w.sizes.0 t)) (fit_weights (m.effect t) (w.sizes.1 t)))

  fit_labels : Fit (labels_of m)
  fit_labels = fit_each (λ p. (10, m.place_label p) ∷ []) m.places (λ p h. (omega (arith, w.place_labels.0 p), tt))

  fit_rows : Fit (rows_of m)
  fit_rows = fit_each (row_of m) m.transitions (λ t h. fit_row t)

  fit_body : Fit (labels_of m ++ rows_of m)
  fit_body = fit_append (labels_of m) (rows_of m) fit_labels fit_rows

  pub fit_fields : Fit (fields_of m)
  fit_fields = (omega arith, (omega (arith, w.few_places), (omega (arith, w.few_transitions), fit_body)))

-- packed fields, as bytes
module _ (fs : List Field) (fit : Fit fs) where
  pub packed_small : AllByRecursion (λ b. b < 256) (packed fs)
  unfolding packed
  packed_small = bytes_small (bytes_for (size fs)) (number fs * 2 ^ fill_for (size fs))

  pub packed_num : num (packed fs) ≡ number fs * 2 ^ fill_for (size fs)
  unfolding packed
  packed_num =
      let e : size fs + fill_for (size fs) ≡ 8 * bytes_for (size fs) = omega arith in
      num_bytes (bytes_for (size fs)) (number fs * 2 ^ fill_for (size fs))
      ∙ mod-eq_of_lt (subst (λ (k : ℕ). number fs * 2 ^ fill_for (size fs) < 2 ^ k) e (shl_below (number fs) (size fs) (fill_for (size fs)) (number_below fs fit)))

  pub packed_holds : Holds (packed fs) 0 fs
  packed_holds =
      let b = packed fs in
      let l = length_packed fs in
      let e : 8 * length b - (0 + size fs) ≡ fill_for (size fs) = omega (arith, l) in
      ap (λ (k : ℕ). spelt k fs) (first_none b packed_small)
      ∙ sym (first_num b packed_small (0 + size fs) (omega (arith, l)) ∙ ap₂ (λ (x k : ℕ). x / 2 ^ k) packed_num e ∙ shl-shr (number fs) (fill_for (size fs)))

-- what is read of a net at its bytes
pub record Reads (bs : List ℕ) (m : Model) : Type 0 where
  pub form : field_at bs 0 4 ≡ 1
  pub places : places_of bs ≡ m.places
  pub transitions : transitions_of bs ≡ m.transitions
  pub place_labels : (p : ℕ) → p < m.places → field_at bs (19 + 10 * p) 10 ≡ m.place_label p
  pub transition_labels : (t : ℕ) → t < m.transitions → field_at bs (row_at m.places t) 10 ≡ m.transition_label t
  pub causes : (t p : ℕ) → t < m.transitions → p < m.places → weights_from bs (row_at m.places t + 10 + 0) p ≡ m.cause t p
  pub effects : (t p : ℕ) → t < m.transitions → p < m.places → weights_from bs (row_at m.places t + 10 + 8 * m.places) p ≡ m.effect t p

module _ (m : Model) (w : Lawful m) (bs : List ℕ) (small : AllByRecursion (λ b. b < 256) bs) (room : row_at m.places m.transitions ≤ 8 * length bs) (holds : Holds bs 0 (fields_of m)) where
  whole : size (fields_of m) ≤ 8 * length bs
  whole = omega (arith, size_fields m)

  after_form : Holds bs 4 ((7, m.places) ∷ (8, m.transitions) ∷ (labels_of m ++ rows_of m))
  unfolding size
  after_form = holds_right bs small 0 ((4, 1) ∷ []) _ (fit_fields m w).1 (omega (arith, whole)) holds

  after_places : Holds bs 11 ((8, m.transitions) ∷ (labels_of m ++ rows_of m))
  unfolding size
  after_places = holds_right bs small 4 ((7, m.places) ∷ []) _ (fit_fields m w).1.1 (omega (arith, whole)) after_form

  after_head : Holds bs 19 (labels_of m ++ rows_of m)
  unfolding size
  after_head = holds_right bs small 11 ((8, m.transitions) ∷ []) _ (fit_body m w) (omega (arith, whole)) after_places

  labels : Holds bs 19 (labels_of m)
  unfolding size
  labels = holds_left bs small 19 (labels_of m) (rows_of m) (fit_rows m w) (omega (arith, whole)) after_head

  rows : Holds bs (19 + 10 * m.places) (rows_of m)
  unfolding size
  rows =
      let e : 19 + size (labels_of m) ≡ 19 + 10 * m.places = omega (arith, size_same 10 m.place_label m.places) in
      subst (λ (k : ℕ). Holds bs k (rows_of m)) e (holds_right bs small 19 (labels_of m) (rows_of m) (fit_rows m w) (omega (arith, whole)) after_head)

  row : (t : ℕ) → t < m.transitions → Holds bs (row_at m.places t) (row_of m t)
  row t h = each_holds bs small (19 + 10 * m.places) (10 + 16 * m.places) (row_of m) m.transitions (λ i l. size_row m i) (λ i l. fit_row m w i) (omega (arith, room)) rows t h

  weights : (f : ℕ → ℕ) (o : ℕ) → sum_below m.places f ≤ 255 → o + 8 * m.places ≤ 8 * length bs → Holds bs o (weights_of f m.places) → (p : ℕ) → p < m.places → weights_from bs o p ≡ f p
  unfolding size
  weights f o light l h p k =
      let e : o + p * 8 ≡ o + 8 * p = omega arith in
      let below : f p < 256 = omega (arith, term_le m.places f p k) in
      holds_field bs small (o + 8 * p) 8 (f p) below (subst (λ (x : ℕ). Holds bs x ((8, f p) ∷ [])) e
      (each_holds bs small o 8 (λ p. (8, f p) ∷ []) m.places (λ i j. refl) (λ i j. (omega (arith, term_le m.places f i j), tt)) (omega arith) h p k))

  after_label : (t : ℕ) → t < m.transitions → Holds bs (row_at m.places t + 10) (weights_of (m.cause t) m.places ++ weights_of (m.effect t) m.places)
  unfolding size
  after_label t h = holds_right bs small (row_at m.places t) ((10, m.transition_label t) ∷ []) _ (fit_row m w t).1
      (omega (arith, room, size_row m t, row_inside m.places t m.transitions h)) (row t h)

  room_row : (t : ℕ) → t < m.transitions → row_at m.places t + 10 + size (weights_of (m.cause t) m.places ++ weights_of (m.effect t) m.places) ≤ 8 * length bs
  unfolding size
  room_row t h = omega (arith, room, size_row m t, row_inside m.places t m.transitions h)

  pub reads : Reads bs m
  unfolding size
  reads = record {
    form = holds_field bs small 0 4 1 (omega arith) (holds_left bs small 0 ((4, 1) ∷ []) _ (fit_fields m w).1 (omega (arith, whole)) holds);
    places = holds_field bs small 4 7 m.places (omega (arith, w.few_places)) (holds_left bs small 4 ((7, m.places) ∷ []) _ (fit_fields m w).1.1 (omega (arith, whole)) after_form);
    transitions = holds_field bs small 11 8 m.transitions (omega (arith, w.few_transitions)) (holds_left bs small 11 ((8, m.transitions) ∷ []) _ (fit_body m w) (omega (arith, whole)) after_places);
    place_labels = λ p h.
        let e : 19 + p * 10 ≡ 19 + 10 * p = omega arith in
        holds_field bs small (19 + 10 * p) 10 (m.place_label p) (omega (arith, w.place_labels.0 p)) (subst (λ (x : ℕ). Holds bs x ((10, m.place_label p) ∷ [])) e
        (each_holds bs small 19 10 (λ p. (10, m.place_label p) ∷ []) m.places (λ i j. refl) (λ i j. (omega (arith, w.place_labels.0 i), tt)) (omega (arith, room)) labels p h));
    transition_labels = λ t h. holds_field bs small (row_at m.places t) 10 (m.transition_label t) (omega (arith, w.transition_labels.0 t))
        (holds_left bs small (row_at m.places t) ((10, m.transition_label t) ∷ []) _ (fit_row m w t).1 (omega (arith, room, size_row m t, row_inside m.places t m.transitions h)) (row t h));
    causes = λ t p h l.
        let e : row_at m.places t + 10 ≡ row_at m.places t + 10 + 0 = omega arith in
        weights (m.cause t) (row_at m.places t + 10 + 0) (w.sizes.0 t) (omega (arith, room, row_inside m.places t m.transitions h))
        (subst (λ (x : ℕ). Holds bs x (weights_of (m.cause t) m.places)) e
        (holds_left bs small (row_at m.places t + 10) (weights_of (m.cause t) m.places) (weights_of (m.effect t) m.places) (fit_weights m w (m.effect t) (w.sizes.1 t)) (room_row t h) (after_label t h))) p l;
    effects = λ t p h l.
        let e : row_at m.places t + 10 + size (weights_of (m.cause t) m.places) ≡ row_at m.places t + 10 + 8 * m.places = omega (arith, size_same 8 (m.cause t) m.places) in
        weights (m.effect t) (row_at m.places t + 10 + 8 * m.places) (w.sizes.1 t) (omega (arith, room, row_inside m.places t m.transitions h))
        (subst (λ (x : ℕ). Holds bs x (weights_of (m.effect t) m.places)) e
        (holds_right bs small (row_at m.places t + 10) (weights_of (m.cause t) m.places) (weights_of (m.effect t) m.places) (fit_weights m w (m.effect t) (w.sizes.1 t)) (room_row t h) (after_label t h))) p l;
  }

-- bytes that read as a lawful net are sound, if their number and their fill are
module _ (m : Model) (w : Lawful m) (bs : List ℕ) (r : Reads bs m) where
  pub bits_same : bits_of bs ≡ row_at m.places m.transitions
  bits_same = ap₂ row_at r.places r.transitions

  size_read : (skip : ℕ) (f : ℕ → ℕ → ℕ) → SmallBags m.places f → ((t p : ℕ) → t < m.transitions → p < m.places → weights_from bs (row_at m.places t + 10 + skip) p ≡ f t p) →
      (t : ℕ) → t < transitions_of bs → size_at bs m.places skip t ≤ 255
  size_read skip f light e t h = omega (arith, light t, sum_same m.places (weights_from bs (row_at m.places t + 10 + skip)) (f t) (λ q l. e t q (omega (arith, r.transitions)) l))

  pub reads_sheet : length bs ≡ bytes_for (row_at m.places m.transitions) → num bs % 2 ^ fill_for (row_at m.places m.transitions) ≡ 0 → LawfulSheet bs
  reads_sheet l z =
      let e = bits_same in
      record {
        long = omega arith;
        form = r.form;
        places = omega (arith, r.places, w.few_places);
        transitions = omega (arith, r.transitions, w.few_transitions);
        sized = l ∙ ap bytes_for (sym e);
        causes = λ t h. subst (λ (k : ℕ). size_at bs k 0 t ≤ 255) (sym r.places) (size_read 0 m.cause w.sizes.0 r.causes t h);
        effects = λ t h. subst (λ (k : ℕ). size_at bs k (8 * k) t ≤ 255) (sym r.places) (size_read (8 * m.places) m.effect w.sizes.1 r.effects t h);
        filled = ap (λ (k : ℕ). get_or bs (length bs - 1) 0 % 2 ^ fill_for k) e ∙ sym (fill_last bs (fill_for (row_at m.places m.transitions)) (omega arith) (omega arith)) ∙ z;
      }

  pub reads_agree : Agree (net_of bs) m
  reads_agree = record {
    places = r.places;
    transitions = r.transitions;
    place_labels = λ p h. cond-true (ltb p (places_of bs)) _ 0 (lt-ltb p (places_of bs) h) ∙ r.place_labels p (omega (arith, r.places));
    transition_labels = λ t h. cond-true (ltb t (transitions_of bs)) _ 0 (lt-ltb t (transitions_of bs) h)
        ∙ ap (λ (k : ℕ). field_at bs (row_at k t) 10) r.places ∙ r.transition_labels t (omega (arith, r.transitions));
    causes = λ t p h l. weight_in bs 0 t p h l ∙ ap (λ (k : ℕ). weights_from bs (row_at k t + 10 + 0) p) r.places ∙ r.causes t p (omega (arith, r.transitions)) (omega (arith, r.places));
    effects = λ t p h l. weight_in bs (8 * places_of bs) t p h l ∙ ap (λ (k : ℕ). weights_from bs (row_at k t + 10 + 8 * k) p) r.places ∙ r.effects t p (omega (arith, r.transitions)) (omega (arith, r.places));
  }

module _ (m : Model) (w : Lawful m) where
  sheet_length : length (sheet_of m) ≡ bytes_for (row_at m.places m.transitions)
  sheet_length = length_packed (fields_of m) ∙ ap bytes_for (size_fields m)

  pub sheet_reads : Reads (sheet_of m) m
  sheet_reads = reads m w (sheet_of m) (packed_small (fields_of m) (fit_fields m w)) (omega (arith, sheet_length)) (packed_holds (fields_of m) (fit_fields m w))

  pub sheet_reads_lawful : LawfulSheet (sheet_of m)
  sheet_reads_lawful = reads_sheet m w (sheet_of m) sheet_reads sheet_length
      (ap (λ (k : ℕ). num (sheet_of m) % 2 ^ fill_for k) (sym (size_fields m))
      ∙ ap (λ (k : ℕ). k % 2 ^ fill_for (size (fields_of m))) (packed_num (fields_of m) (fit_fields m w)) ∙ mul-mod_left (number (fields_of m)) (2 ^ fill_for (size (fields_of m))))

  pub net_again : net_of (sheet_of m) ≡ m
  net_again = one_model (net_of (sheet_of m)) m (lawful_net (sheet_of m) sheet_reads_lawful) w (reads_agree m w (sheet_of m) sheet_reads)

  pub sheet_taken : sheet_refusal (sheet_of m) ≡ 0
  sheet_taken = unrefused (sheet_of m) sheet_reads_lawful

  pub sheet_short : length (sheet_of m) ≤ 16627
  sheet_short = omega (arith, sheet_length, sheet_room m.places m.transitions w.few_places w.few_transitions)
