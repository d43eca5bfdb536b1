-- A field that goes into the buffer.
use Rattle.std.proofs.Common.{◌≡◌, ℕ, ◌+◌, ◌*◌, ◌/◌, ◌%◌, ◌^◌, ◌<◌, ◌≤◌, List, [], ◌∷◌, ◌++◌, length, take, drop, get_or, set, sym, ap, ◌∙◌, subst, ap₂, append_assoc, add-zero, arith}
use Rattle.std.specs.Int.{w32, to_be_bytes}
use Rattle.std.proofs.lemmas.Nat.{shl_whole, one_shl}
use Rattle.std.proofs.lemmas.List.{length-append, length-drop, length-set, length-take-le, take-append-drop, take-set, take_more_set, drop-set, drop-set-lt}
use Rattle.format.specs.Fields.{bytes_of, spelt, size}
use Rattle.format.proofs.Bytes.{length_bytes}
use Rattle.writer.specs.Ink.{Inked, Writes, HasRoom}
use Rattle.writer.specs.declared.pen.Pen.{Pen}
use Rattle.writer.proofs.Inking.{ink_keep, ink_out, ink_as, resized}

-- a byte that goes into a buffer
byte_put : (buf : List ℕ) (at x : ℕ) → at < length buf → set buf at x ≡ take at buf ++ (x ∷ drop (at + 1) buf)
byte_put buf at x l =
    sym (take-append-drop at (set buf at x)) ∙ ap₂ (λ (xs ys : List ℕ). xs ++ ys) (take-set buf at x) (drop-set buf at x l)

-- The last n bytes of a number r go into a buffer.
module _ (buf : List ℕ) (at r : ℕ) {ready : List ℕ} (is : ready ≡ to_be_bytes w32 r) where
  pub none_put : buf ≡ take at buf ++ (bytes_of 0 r ++ drop (at + 0) buf)
  unfolding bytes_of
  none_put = sym (ap (λ (k : ℕ). take at buf ++ drop k buf) (add-zero at) ∙ take-append-drop at buf)

  pub one_put : at < length buf → set buf at (get_or ready 3 0) ≡ take at buf ++ (bytes_of 1 r ++ drop (at + 1) buf)
  unfolding bytes_of
  one_put l = ap (λ (bs : List ℕ). set buf at (get_or bs 3 0)) is ∙ byte_put buf at _ l

  pub two_put : at + 1 < length buf → set (set buf at (get_or ready 2 0)) (at + 1) (get_or ready 3 0) ≡ take at buf ++ (bytes_of 2 r ++ drop (at + 2) buf)
  unfolding bytes_of
  two_put l =
      let high = get_or (to_be_bytes w32 r) 2 0 in
      let low = get_or (to_be_bytes w32 r) 3 0 in
      let more : at + 1 + 1 ≡ at + 2 = omega arith in
      ap (λ (bs : List ℕ). set (set buf at (get_or bs 2 0)) (at + 1) (get_or bs 3 0)) is
      ∙ byte_put (set buf at high) (at + 1) low (omega (arith, length-set buf at high))
      ∙ ap₂ (λ (xs ys : List ℕ). xs ++ (low ∷ ys)) (take_more_set buf at high (omega arith)) (drop-set-lt (at + 1 + 1) buf at high (omega arith) ∙ ap (λ (k : ℕ). drop k buf) more)
      ∙ append_assoc (take at buf) (high ∷ []) (low ∷ drop (at + 2) buf)

length_mid : (at n : ℕ) (buf ys : List ℕ) → length ys ≡ n → at + n ≤ length buf → length (take at buf ++ (ys ++ drop (at + n) buf)) ≡ length buf
length_mid at n buf ys e l =
    omega (arith, length-append (take at buf) (ys ++ drop (at + n) buf), length-append ys (drop (at + n) buf), length-drop (at + n) buf, length-take-le at buf (omega arith))

-- From the pen p to q a field of width w and value x is pushed: the last `whole` bytes of a number go out, and `left` bits are held.
pub pushed : {w x : ℕ} (p : Pen) {q : Pen} {held value : ℕ} (whole : ℕ) → w ≤ 16 → x < 2 ^ w → HasRoom ((w, x) ∷ []) p → held ≡ p.held → value ≡ x → whole ≡ (p.count + w) / 8 → q.buffer.ghost_name ≡ p.buffer.ghost_name →
    q.buffer.now ≡ take p.at p.buffer.now ++ (bytes_of whole ((held * 2 ^ w % 4294967296 + value) / 2 ^ ((p.count + w) % 8)) ++ drop (p.at + whole) p.buffer.now) → q.at ≡ p.at + whole →
    q.held ≡ (held * 2 ^ w % 4294967296 + value) % (1 * 2 ^ ((p.count + w) % 8) % 4294967296) → q.count ≡ (p.count + w) % 8 → Writes ((w, x) ∷ []) p q
unfolding spelt size
pushed {w} {x} p {q} {held} {value} whole n l room held_is value_is whole_is same text_is at_is left_is count_is =
    let left = (p.count + w) % 8 in
    let wide = p.held * 2 ^ w + x in
    let buf = p.buffer.now in
    let bits : held * 2 ^ w % 4294967296 + value ≡ wide =
    ap₂ (λ (h y : ℕ). h * 2 ^ w % 4294967296 + y) held_is value_is ∙ ap (λ (k : ℕ). k + x) (shl_whole p.held p.count w 32 p.below (omega (arith, p.short))) in
    let apart : p.count + w ≡ 8 * whole + left = omega (arith, whole_is) in
    let text : q.buffer.now ≡ take p.at buf ++ (bytes_of whole (wide / 2 ^ left) ++ drop (p.at + whole) buf) =
    text_is ∙ ap (λ (k : ℕ). take p.at buf ++ (bytes_of whole (k / 2 ^ left) ++ drop (p.at + whole) buf)) bits in
    let kept : q.held ≡ wide % 2 ^ left = left_is ∙ ap₂ (λ (a b : ℕ). a % b) bits (one_shl left 32 (omega arith)) in
    record {
      same = same;
      long = ap length text ∙ length_mid p.at whole buf (bytes_of whole (wide / 2 ^ left)) (length_bytes whole (wide / 2 ^ left)) (omega (arith, room, whole_is));
      sized = omega (arith, at_is, count_is, apart);
      inked = λ old v s i.
          let j = subst (λ (k : ℕ). Inked old (v * 2 ^ w + x) (s + w) buf p.at wide k) apart (ink_keep old v s buf p.at p.held p.count w x i l) in
          resized (omega arith) (ink_as text at_is kept count_is (ink_out old (v * 2 ^ w + x) (s + w) buf p.at wide whole left j));
    }
