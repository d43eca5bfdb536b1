-- What a pen writes, step after step, and the room for it.
use Rattle.std.proofs.Common.{◌≡◌, ℕ, zero, suc, ◌+◌, ◌<◌, ◌≤◌, List, [], ◌∷◌, ◌++◌, sym, refl, ap, ◌∙◌, subst, ⊎_elim, arith}
use Rattle.std.proofs.lemmas.Bool.{cases_lt}
use Rattle.format.specs.Fields.{Field, spelt, size, each}
use Rattle.format.proofs.Runs.{spelt_append, size_append, each_more}
use Rattle.writer.specs.Ink.{Inks, Writes, HasRoom}
use Rattle.writer.specs.declared.pen.Pen.{Pen}
use Rattle.writer.proofs.Inking.{resized}

pub writes_none : (pen : Pen) → Writes [] pen pen
unfolding spelt size
writes_none pen = record { same = refl; long = refl; sized = omega arith; inked = λ old v s i. resized (omega arith) i }

pub writes_join : {fs gs : List Field} {p q r : Pen} → Writes fs p q → Writes gs q r → Writes (fs ++ gs) p r
writes_join {fs} {gs} {r = r} x y = record {
  same = y.same ∙ x.same;
  long = y.long ∙ x.long;
  sized = omega (arith, size_append fs gs, x.sized, y.sized);
  inked = λ old v s i.
      let j = y.inked old (spelt v fs) (s + size fs) (x.inked old v s i) in
      subst (λ (k : ℕ). Inks old k (s + size (fs ++ gs)) r) (sym (spelt_append v fs gs)) (resized (omega (arith, size_append fs gs)) j);
}

-- one field with another name for its value
pub writes_value : {w x y : ℕ} {p r : Pen} → x ≡ y → Writes ((w, x) ∷ []) p r → Writes ((w, y) ∷ []) p r
writes_value {w} {p = p} {r} e h = subst (λ (k : ℕ). Writes ((w, k) ∷ []) p r) e h

-- room for some fields, then for the fields after them
pub room_front : (fs gs : List Field) (p : Pen) → HasRoom (fs ++ gs) p → HasRoom fs p
room_front fs gs p h = omega (arith, size_append fs gs)

pub room_after : {fs : List Field} (gs : List Field) {p q : Pen} → Writes fs p q → HasRoom (fs ++ gs) p → HasRoom gs q
room_after {fs} gs x h = omega (arith, size_append fs gs, x.sized, x.long)

-- parts of fields, one for each number below n
pub each_none : (f : ℕ → List Field) (pen : Pen) → Writes (each f 0) pen pen
unfolding each
each_none f pen = writes_none pen

pub each_next : (f : ℕ → List Field) (n : ℕ) {p q r : Pen} → Writes (each f n) p q → Writes (f n) q r → Writes (each f (n + 1)) p r
each_next f n {p} {r = r} x y = subst (λ (fs : List Field). Writes fs p r) (sym (each_more f n)) (writes_join x y)

pub each_to : (f : ℕ → List Field) {n m : ℕ} {p r : Pen} → n ≡ m → Writes (each f n) p r → Writes (each f m) p r
each_to f {p = p} {r} e h = subst (λ (k : ℕ). Writes (each f k) p r) e h

-- the parts below i take no more bits than those below n
size_below : (f : ℕ → List Field) (i n : ℕ) → i ≤ n → size (each f i) ≤ size (each f n)
unfolding each
size_below f i zero h =
    let e : i ≡ 0 = omega arith in
    omega (arith, ap (λ (k : ℕ). size (each f k)) e)
size_below f i (suc n) h = ⊎_elim
    (λ (l : i < suc n). omega (arith, size_below f i n (omega arith), size_append (each f n) (f n)))
    (λ (l : suc n ≤ i). let e : i ≡ suc n = omega arith in omega (arith, ap (λ (k : ℕ). size (each f k)) e))
    (cases_lt i (suc n))

-- room for the part at i, once the parts below it are written
pub each_room : (f : ℕ → List Field) (i n : ℕ) {p q : Pen} → Writes (each f i) p q → i < n → HasRoom (each f n) p → HasRoom (f i) q
each_room f i n x l h = omega (arith, size_below f (i + 1) n (omega arith), ap size (each_more f i), size_append (each f i) (f i), x.sized, x.long)

-- fields of one width, a value for each number below n
pub values_next : (w : ℕ) (f : ℕ → ℕ) (n : ℕ) {x : ℕ} {p q r : Pen} → Writes (each (λ i. (w, f i) ∷ []) n) p q → x ≡ f n → Writes ((w, x) ∷ []) q r → Writes (each (λ i. (w, f i) ∷ []) (n + 1)) p r
values_next w f n x e y = each_next (λ i. (w, f i) ∷ []) n x (writes_value e y)

pub values_room : (w : ℕ) (f : ℕ → ℕ) (i n x : ℕ) {p q : Pen} → Writes (each (λ i. (w, f i) ∷ []) i) p q → i < n → HasRoom (each (λ i. (w, f i) ∷ []) n) p → HasRoom ((w, x) ∷ []) q
unfolding size
values_room w f i n x h l room = each_room (λ i. (w, f i) ∷ []) i n h l room

pub values_to : (w : ℕ) (f : ℕ → ℕ) {n m : ℕ} {p r : Pen} → n ≡ m → Writes (each (λ i. (w, f i) ∷ []) n) p r → Writes (each (λ i. (w, f i) ∷ []) m) p r
values_to w f e h = each_to (λ i. (w, f i) ∷ []) e h
