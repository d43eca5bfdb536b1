-- The last byte of what a pen writes.
use Rattle.std.proofs.Common.{◌≡◌, ℕ, ◌+◌, ◌-◌, ◌*◌, ◌/◌, ◌^◌, ◌<◌, List, [], ◌∷◌, ◌++◌, drop, ap, ◌∙◌, subst, ap₂, add-zero, div-one, arith}
use Rattle.format.specs.Fields.{bytes_of, bytes_for, fill_for, spelt, size}
use Rattle.writer.specs.Ink.{Inks, Writes, Filled}
use Rattle.writer.specs.declared.pen.Pen.{Pen}
use Rattle.writer.proofs.Inking.{resized}

-- a whole number of bytes
ink_end : (old : List ℕ) (v s w : ℕ) (q : Pen) → Inks old (v * 2 ^ w + 0) (s + w) q → q.count ≡ 0 → w < 8 → (q.at ≡ bytes_for s) × (q.buffer.now ≡ bytes_of (bytes_for s) (v * 2 ^ fill_for s) ++ drop (bytes_for s) old)
ink_end old v s w q i e l =
    let n : q.at ≡ bytes_for s = omega (arith, i.sized) in
    let f : w ≡ fill_for s = omega (arith, i.sized) in (
      n,
      i.text
          ∙ ap (λ (k : ℕ). bytes_of q.at ((v * 2 ^ w + 0) / 2 ^ k) ++ drop q.at old) e
          ∙ ap (λ (k : ℕ). bytes_of q.at k ++ drop q.at old) (div-one (v * 2 ^ w + 0) ∙ add-zero (v * 2 ^ w))
          ∙ ap₂ (λ (n k : ℕ). bytes_of n (v * 2 ^ k) ++ drop n old) n f,
    )

pub filled_push : {p q : Pen} → Writes ((8 - p.count, 0) ∷ []) p q → 0 < p.count → Filled p q.at q.buffer.now
unfolding spelt size
filled_push {p} {q} x l = λ old v s i.
    let j = x.inked old v s i in
    ink_end old v s (8 - p.count) q (resized (omega arith) j) (omega (arith, x.sized, p.short, q.short)) (omega arith)

pub filled_still : (p : Pen) → p.count ≡ 0 → Filled p p.at p.buffer.now
filled_still p e = λ old v s i.
    let z : v ≡ v * 2 ^ 0 + 0 = omega arith in
    ink_end old v s 0 p (subst (λ (k : ℕ). Inks old k (s + 0) p) z (resized (omega arith) i)) e (omega arith)
