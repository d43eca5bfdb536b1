-- The order of sheets is the order of their fields.
use Rattle.std.proofs.Common.{◌≡◌, ℕ, zero, suc, ◌+◌, ◌*◌, ◌^◌, ◌<◌, ◌≤◌, ◌&&◌, ◌||◌, eqb, ltb, ◌⊎◌, List, [], ◌∷◌, ◌++◌, map, length, sym, refl, ap, ◌∙◌, subst, ap₂, inl, inr, ⊎_elim, arith}
use Rattle.std.specs.List.{AllByRecursion}
use Rattle.std.proofs.lemmas.Nat.{pow_pos, mul-le}
use Rattle.std.proofs.lemmas.List.{map-append}
use Rattle.std.proofs.lemmas.Bool.{cases_order, cases_lt, lt-ltb, le-ltb, eq-eqb, ne_eqb}
use Rattle.net.specs.Model.{Model, Lawful}
use Rattle.finite.specs.Lexicographic.{lower}
use Rattle.format.specs.Fields.{Field, Fit, size, spelt, number, num, octets, each, packed, fill_for, bytes_for}
use Rattle.format.specs.Sheets.{sheet_of, fields_of, labels_of, rows_of, row_of, weights_of}
use Rattle.format.proofs.Runs.{number_cons, number_below}
use Rattle.format.proofs.Bytes.{fit_octets}
use Rattle.format.proofs.Sizes.{length_packed}
use Rattle.format.proofs.Writing.{fit_fields, packed_small, packed_num}

-- the values of a run of fields, and their widths
abbrev pub values : List Field → List ℕ
values fs = map (λ (f : Field). f.1) fs

abbrev widths : List Field → List ℕ
widths fs = map (λ (f : Field). f.0) fs

-- the higher first field decides
higher : (f g m x y : ℕ) → f < g → x < m → f * m + x < g * m + y
higher f g m x y h l = omega (arith, mul-le (suc f) m g m h (omega arith))

-- one test of order is another, where each holds with the other
ltb_same : (a b c d : ℕ) → (a < b → c < d) → (b ≤ a → d ≤ c) → ltb a b ≡ ltb c d
ltb_same a b c d x y = ⊎_elim (λ (h : a < b). lt-ltb a b h ∙ sym (lt-ltb c d (x h))) (λ (h : b ≤ a). le-ltb a b h ∙ sym (le-ltb c d (y h))) (cases_lt a b)

size_widths : (fs gs : List Field) → widths fs ≡ widths gs → size fs ≡ size gs
unfolding size
size_widths [] [] e = refl
size_widths [] (g ∷ gs) e = let z : ◌≡◌ {A = ℕ} 0 1 = cc in absurd (omega arith)
size_widths (f ∷ fs) [] e = let z : ◌≡◌ {A = ℕ} 0 1 = cc in absurd (omega arith)
size_widths (f ∷ fs) (g ∷ gs) e =
    let p : f.0 ≡ g.0 = cc in
    let q : widths fs ≡ widths gs = cc in
    omega (arith, size_widths fs gs q)

-- fields of the same widths stand in the order of the numbers that they spell
number_order : (fs gs : List Field) → widths fs ≡ widths gs → Fit fs → Fit gs → lower (values fs) (values gs) ≡ ltb (number fs) (number gs)
unfolding lower spelt
number_order [] [] e x y = refl
number_order [] (g ∷ gs) e x y = let z : ◌≡◌ {A = ℕ} 0 1 = cc in absurd (omega arith)
number_order (f ∷ fs) [] e x y = let z : ◌≡◌ {A = ℕ} 0 1 = cc in absurd (omega arith)
number_order (f ∷ fs) (g ∷ gs) e x y =
    let q : widths fs ≡ widths gs = cc in
    let s : size fs ≡ size gs = size_widths fs gs q in
    let b : number gs < 2 ^ size fs = subst (λ (k : ℕ). number gs < 2 ^ k) (sym s) (number_below gs y.1) in
    step f.1 g.1 (2 ^ size fs) (number fs) (number gs) (values fs) (values gs) (cases_order f.1 g.1) (number_below fs x.1) b (number_order fs gs q x.1 y.1)
    ∙ sym (ap₂ ltb (number_cons f.0 f.1 fs) (number_cons g.0 g.1 gs ∙ ap (λ (k : ℕ). g.1 * 2 ^ k + number gs) (sym s)))
  where
    step : (f g m u v : ℕ) (xs ys : List ℕ) → (f ≡ g) ⊎ ((f < g) ⊎ (g < f)) → u < m → v < m → lower xs ys ≡ ltb u v → (ltb f g || (eqb f g && lower xs ys)) ≡ ltb (f * m + u) (g * m + v)
    step f g m u v xs ys (inl e) hu hv ih =
        let m : f * m ≡ g * m = ap (λ (x : ℕ). x * m) e in
        rw (le-ltb f g (omega arith), eq-eqb f g e, ih) (ltb_same _ _ _ _ (λ z. omega arith) (λ z. omega arith))
    step f g m u v xs ys (inr (inl l)) hu hv ih = rw (lt-ltb f g l) (sym (lt-ltb _ _ (higher f g m u v l hu)))
    step f g m u v xs ys (inr (inr l)) hu hv ih =
        let z : g * m + v < f * m + u = higher g f m v u l hv in
        rw (le-ltb f g (omega arith), ne_eqb f g (λ e. omega arith)) (sym (le-ltb _ _ (omega arith)))

widths_octets : (bs cs : List ℕ) → length bs ≡ length cs → widths (octets bs) ≡ widths (octets cs)
widths_octets [] [] e = refl
widths_octets [] (c ∷ cs) e = absurd (omega arith)
widths_octets (b ∷ bs) [] e = absurd (omega arith)
widths_octets (b ∷ bs) (c ∷ cs) e = ap (λ (x : List ℕ). 8 ∷ x) (widths_octets bs cs (omega arith))

values_octets : (bs : List ℕ) → values (octets bs) ≡ bs
values_octets [] = refl
values_octets (b ∷ bs) = ap (λ (x : List ℕ). b ∷ x) (values_octets bs)

bytes_order : (bs cs : List ℕ) → length bs ≡ length cs → AllByRecursion (λ b. b < 256) bs → AllByRecursion (λ b. b < 256) cs → lower bs cs ≡ ltb (num bs) (num cs)
bytes_order bs cs e x y =
    ap₂ lower (sym (values_octets bs)) (sym (values_octets cs)) ∙ number_order (octets bs) (octets cs) (widths_octets bs cs e) (fit_octets bs x) (fit_octets cs y)

-- packed fields of the same widths stand in the order of the fields
packed_order : (fs gs : List Field) → widths fs ≡ widths gs → Fit fs → Fit gs → lower (packed fs) (packed gs) ≡ lower (values fs) (values gs)
packed_order fs gs e x y =
    let s : size fs ≡ size gs = size_widths fs gs e in
    let k = 2 ^ fill_for (size fs) in
    let u = number fs in
    let v = number gs in
    let l : length (packed fs) ≡ length (packed gs) = length_packed fs ∙ ap bytes_for s ∙ sym (length_packed gs) in
    let pos : 0 < k = pow_pos (fill_for (size fs)) in
    bytes_order (packed fs) (packed gs) l (packed_small fs x) (packed_small gs y)
    ∙ ap₂ ltb (packed_num fs x) (packed_num gs y ∙ ap (λ (n : ℕ). v * 2 ^ fill_for n) (sym s))
    ∙ ltb_same (u * k) (v * k) u v
    (λ h. ⊎_elim (λ (z : u < v). z) (λ (z : v ≤ u). absurd (omega (arith, mul-le v k u k z (omega arith)))) (cases_lt u v))
    (λ h. ⊎_elim (λ (z : u < v). absurd (omega (arith, mul-le (suc u) k v k z (omega arith)))) (λ (z : v ≤ u). z) (cases_lt u v))
    ∙ sym (number_order fs gs e x y)

widths_append : (fs gs fs' gs' : List Field) → widths fs ≡ widths fs' → widths gs ≡ widths gs' → widths (fs ++ gs) ≡ widths (fs' ++ gs')
widths_append fs gs fs' gs' x y = map-append (λ (f : Field). f.0) fs gs ∙ ap₂ (λ (a b : List ℕ). a ++ b) x y ∙ sym (map-append (λ (f : Field). f.0) fs' gs')

widths_each : (f g : ℕ → List Field) (n : ℕ) → ((i : ℕ) → widths (f i) ≡ widths (g i)) → widths (each f n) ≡ widths (each g n)
unfolding each
widths_each f g zero h = refl
widths_each f g (suc n) h = widths_append (each f n) (f n) (each g n) (g n) (widths_each f g n h) (h n)

widths_row : (m o : Model) → m.places ≡ o.places → (t : ℕ) → widths (row_of m t) ≡ widths (row_of o t)
widths_row m o e t = ap (λ (x : List ℕ). 10 ∷ x) (widths_append (weights_of (m.cause t) m.places) (weights_of (m.effect t) m.places) (weights_of (o.cause t) o.places) (weights_of (o.effect t) o.places) (one (m.cause t) (o.cause t)) (one (m.effect t) (o.effect t)))
  where
    one : (f g : ℕ → ℕ) → widths (weights_of f m.places) ≡ widths (weights_of g o.places)
    one f g = widths_each (λ p. (8, f p) ∷ []) (λ p. (8, g p) ∷ []) m.places (λ i. refl) ∙ ap (λ (k : ℕ). widths (weights_of g k)) e

-- sheets of one size stand in the order of their fields
pub sheet_order : (m o : Model) → Lawful m → Lawful o → m.places ≡ o.places → m.transitions ≡ o.transitions →
    lower (sheet_of m) (sheet_of o) ≡ lower (values (fields_of m)) (values (fields_of o))
sheet_order m o wm wo e f =
    packed_order (fields_of m) (fields_of o)
    (ap (λ (x : List ℕ). 4 ∷ 7 ∷ 8 ∷ x) (widths_append (labels_of m) (rows_of m) (labels_of o) (rows_of o)
    (widths_each (λ p. (10, m.place_label p) ∷ []) (λ p. (10, o.place_label p) ∷ []) m.places (λ i. refl) ∙ ap (λ (k : ℕ). widths (each (λ p. (10, o.place_label p) ∷ []) k)) e)
    (widths_each (row_of m) (row_of o) m.transitions (widths_row m o e) ∙ ap (λ (k : ℕ). widths (each (row_of o) k)) f)))
    (fit_fields m wm) (fit_fields o wo)
