-- Fields that lie in bytes from a bit on.
use Rattle.std.proofs.Common.{◌≡◌, ℕ, zero, suc, ◌+◌, ◌-◌, ◌*◌, ◌/◌, ◌%◌, ◌^◌, ◌<◌, ◌≤◌, List, [], ◌∷◌, ◌++◌, length, get_or, take, drop, sym, ap, ◌∙◌, subst, ap₂, ⊎_elim, div-one, arith}
use native.Mathlib.Nat.{div-eq_of_lt, sub-zero}
use Rattle.std.specs.List.{AllByRecursion}
use Rattle.std.proofs.lemmas.Nat.{pow_pos, mod_below, shr-shr, shr_split, mod_low, shr_high}
use Rattle.std.proofs.lemmas.List.{length-drop, take-append-drop, take_more, take_all, get_or_past}
use Rattle.std.proofs.ByRecursion.{All-drop}
use Rattle.std.proofs.lemmas.Bool.{cases_lt, cases_eq}
use Rattle.format.specs.Fields.{Field, Fit, size, spelt, number, each, num, first, field_at}
use Rattle.format.proofs.Runs.{size_append, spelt_append, spelt_from, number_below, size_each}
use Rattle.format.proofs.Bytes.{num_append, num_push, num_below}

-- the first e bits, of bytes that are bytes
pub first_num : (bs : List ℕ) → AllByRecursion (λ b. b < 256) bs → (e : ℕ) → e ≤ 8 * length bs → first bs e ≡ num bs / 2 ^ (8 * length bs - e)
unfolding first
first_num bs h e l = ⊎_elim inner outer (cases_lt (e / 8) (length bs))
  where
    inner : e / 8 < length bs → (num (take (e / 8) bs) * 256 + get_or bs (e / 8) 0) / 2 ^ (8 - e % 8) ≡ num bs / 2 ^ (8 * length bs - e)
    inner lt =
        let m = length bs - (e / 8 + 1) in
        let rest = drop (e / 8 + 1) bs in
        let front = num (take (e / 8) bs) * 256 + get_or bs (e / 8) 0 in
        let split : num bs ≡ front * 2 ^ (8 * m) + num rest =
        ap num (sym (take-append-drop (e / 8 + 1) bs)) ∙ num_append (take (e / 8 + 1) bs) rest
        ∙ ap₂ (λ (x y : ℕ). x * 2 ^ (8 * y) + num rest) (ap num (take_more bs (e / 8) 0 lt) ∙ num_push (take (e / 8) bs) (get_or bs (e / 8) 0)) (length-drop (e / 8 + 1) bs) in
        let low : num rest < 2 ^ (8 * m) = subst (λ (y : ℕ). num rest < 2 ^ (8 * y)) (length-drop (e / 8 + 1) bs) (num_below rest (All-drop (λ b. b < 256) (e / 8 + 1) bs h)) in
        sym (ap (λ (y : ℕ). num bs / 2 ^ y) (parts m)
        ∙ sym (shr-shr (num bs) (8 * m) (8 - e % 8))
        ∙ ap (λ (y : ℕ). y / 2 ^ (8 - e % 8)) (ap (λ (y : ℕ). y / 2 ^ (8 * m)) split ∙ shr_high front (8 * m) (num rest) low))
      where
        parts : (m : ℕ) → 8 * length bs - e ≡ 8 * (length bs - (e / 8 + 1)) + (8 - e % 8)
        parts m = omega arith

    outer : length bs ≤ e / 8 → (num (take (e / 8) bs) * 256 + get_or bs (e / 8) 0) / 2 ^ (8 - e % 8) ≡ num bs / 2 ^ (8 * length bs - e)
    outer ge =
        let x : num (take (e / 8) bs) * 256 + get_or bs (e / 8) 0 ≡ num bs * 256 + 0 = ap₂ (λ (x : List ℕ) (y : ℕ). num x * 256 + y) (take_all (e / 8) bs ge) (get_or_past bs (e / 8) 0 ge) in
        let r : 8 - e % 8 ≡ 8 = omega arith in
        let z : 8 * length bs - e ≡ 0 = omega arith in
        ap₂ (λ (x y : ℕ). x / 2 ^ y) x r ∙ shr_high (num bs) 8 0 (omega arith) ∙ sym (ap (λ (y : ℕ). num bs / 2 ^ y) z ∙ div-one (num bs))

pub first_none : (bs : List ℕ) → AllByRecursion (λ b. b < 256) bs → first bs 0 ≡ 0
first_none bs h = first_num bs h 0 (omega arith) ∙ ap (λ (k : ℕ). num bs / 2 ^ k) (sub-zero (8 * length bs)) ∙ div-eq_of_lt (num_below bs h)

pub first_more : (bs : List ℕ) → AllByRecursion (λ b. b < 256) bs → (o w : ℕ) → o + w ≤ 8 * length bs → first bs (o + w) ≡ first bs o * 2 ^ w + field_at bs o w
unfolding field_at
first_more bs h o w l =
    let x = first bs (o + w) in
    let e : first bs o ≡ x / 2 ^ w =
    first_num bs h o (omega arith) ∙ ap (λ (k : ℕ). num bs / 2 ^ k) (omega arith) ∙ sym (shr-shr (num bs) (8 * length bs - (o + w)) w)
    ∙ ap (λ (k : ℕ). k / 2 ^ w) (sym (first_num bs h (o + w) l)) in
    sym (shr_split x w) ∙ ap (λ (k : ℕ). k * 2 ^ w + x % 2 ^ w) (sym e)

-- the fields fs lie in bs from the bit o on
abbrev pub Holds : List ℕ → ℕ → List Field → Type 0
Holds bs o fs = spelt (first bs o) fs ≡ first bs (o + size fs)

pub holds_none : (bs : List ℕ) (o : ℕ) → Holds bs o []
unfolding spelt size
holds_none bs o = ap (first bs) (omega arith)

pub holds_join : (bs : List ℕ) (o : ℕ) (fs gs : List Field) → Holds bs o fs → Holds bs (o + size fs) gs → Holds bs o (fs ++ gs)
holds_join bs o fs gs x y =
    let e : o + size fs + size gs ≡ o + size (fs ++ gs) = omega (arith, size_append fs gs) in
    spelt_append (first bs o) fs gs ∙ ap (λ (a : ℕ). spelt a gs) x ∙ y ∙ ap (first bs) e

module _ (bs : List ℕ) (small : AllByRecursion (λ b. b < 256) bs) where
  -- the bits before are those of fewer bits
  first_less : (o w : ℕ) → o + w ≤ 8 * length bs → first bs o ≡ first bs (o + w) / 2 ^ w
  unfolding field_at
  first_less o w l = sym (ap (λ (k : ℕ). k / 2 ^ w) (first_more bs small o w l) ∙ shr_high (first bs o) w (field_at bs o w) (mod_below _ (2 ^ w) (pow_pos w)))

  pub holds_left : (o : ℕ) (fs gs : List Field) → Fit gs → o + size (fs ++ gs) ≤ 8 * length bs → Holds bs o (fs ++ gs) → Holds bs o fs
  holds_left o fs gs fit l h =
      let x = spelt (first bs o) fs in
      let e : o + size (fs ++ gs) ≡ o + size fs + size gs = omega (arith, size_append fs gs) in
      let whole : x * 2 ^ size gs + number gs ≡ first bs (o + size fs + size gs) = sym (spelt_from x gs) ∙ sym (spelt_append (first bs o) fs gs) ∙ h ∙ ap (first bs) e in
      sym (first_less (o + size fs) (size gs) (omega arith) ∙ ap (λ (k : ℕ). k / 2 ^ size gs) (sym whole) ∙ shr_high x (size gs) (number gs) (number_below gs fit))

  pub holds_right : (o : ℕ) (fs gs : List Field) → Fit gs → o + size (fs ++ gs) ≤ 8 * length bs → Holds bs o (fs ++ gs) → Holds bs (o + size fs) gs
  holds_right o fs gs fit l h =
      let e : o + size (fs ++ gs) ≡ o + size fs + size gs = omega (arith, size_append fs gs) in
      ap (λ (a : ℕ). spelt a gs) (sym (holds_left o fs gs fit l h)) ∙ sym (spelt_append (first bs o) fs gs) ∙ h ∙ ap (first bs) e

  pub holds_field : (o w v : ℕ) → v < 2 ^ w → Holds bs o ((w, v) ∷ []) → field_at bs o w ≡ v
  unfolding spelt size field_at
  holds_field o w v l h =
      let e : o + (w + 0) ≡ o + w = omega arith in
      ap (λ (k : ℕ). k % 2 ^ w) (sym (h ∙ ap (first bs) e)) ∙ mod_low (first bs o) w v l

  pub field_holds : (o w v : ℕ) → o + w ≤ 8 * length bs → field_at bs o w ≡ v → Holds bs o ((w, v) ∷ [])
  unfolding spelt size
  field_holds o w v l h =
      let e : o + w ≡ o + (w + 0) = omega arith in
      ap (λ (k : ℕ). first bs o * 2 ^ w + k) (sym h) ∙ sym (first_more bs small o w l) ∙ ap (first bs) e

-- the same of a part for each number below n
pub holds_each : (bs : List ℕ) (o k : ℕ) (f : ℕ → List Field) (n : ℕ) → ((i : ℕ) → i < n → size (f i) ≡ k) → ((i : ℕ) → i < n → Holds bs (o + i * k) (f i)) → Holds bs o (each f n)
unfolding each
holds_each bs o k f zero s h = holds_none bs o
holds_each bs o k f (suc n) s h =
    let e : o + n * k ≡ o + size (each f n) = omega (arith, size_each f k n (λ i l. s i (omega arith))) in
    holds_join bs o (each f n) (f n) (holds_each bs o k f n (λ i l. s i (omega arith)) (λ i l. h i (omega arith))) (subst (λ (x : ℕ). Holds bs x (f n)) e (h n (omega arith)))

pub each_holds : (bs : List ℕ) → AllByRecursion (λ b. b < 256) bs → (o k : ℕ) (f : ℕ → List Field) (n : ℕ) → ((i : ℕ) → i < n → size (f i) ≡ k) → ((i : ℕ) → i < n → Fit (f i)) →
    o + n * k ≤ 8 * length bs → Holds bs o (each f n) → (i : ℕ) → i < n → Holds bs (o + i * k) (f i)
unfolding each
each_holds bs small o k f zero s t l h i j = absurd (omega arith)
each_holds bs small o k f (suc n) s t l h i j =
    let z : size (each f n) ≡ n * k = size_each f k n (λ i l. s i (omega arith)) in
    let y : size (f n) ≡ k = s n (omega arith) in
    let room : o + size (each f n ++ f n) ≤ 8 * length bs = omega (arith, size_append (each f n) (f n)) in
    ⊎_elim
    (λ (q : i ≡ n). subst (λ (x : ℕ). Holds bs (o + x * k) (f x)) (sym q) (subst (λ (x : ℕ). Holds bs (o + x) (f n)) z (holds_right bs small o (each f n) (f n) (t n (omega arith)) room h)))
    (λ (q : i ≡ n → ⊥). each_holds bs small o k f n (λ i l. s i (omega arith)) (λ i l. t i (omega arith)) (omega arith)
    (holds_left bs small o (each f n) (f n) (t n (omega arith)) room h) i (omega arith))
    (cases_eq i n)
