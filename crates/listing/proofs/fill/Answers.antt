use Rattle.std.proofs.Common.{◌≡◌, ℕ, ◌+◌, ◌≤◌, List, ◌++◌, Option, length, take, sym, ap, ◌∙◌, subst, le_refl, length-take-le, rules}
use Rattle.std.proofs.KnownBytes.{Consumes-trans, Consumes-kept}
use Rattle.std.proofs.Math.Seq.{take-append-add}
use Rattle.std.proofs.lemmas.List.{take-append-le}
use Rattle.std.proofs.lemmas.Slice.{take-put_mid_below}
use Rattle.std.specs.Io.KnownBytes.{Consumes, Keeps}
use borrow.Rule.Slice.PartMut.{put_mid, post_of}
use Rattle.listing.proofs.fill.Goals as goal
use Rattle.listing.proofs.fill.Goals.{in-Ok, in-Err}

-- A read goes into the part of xs from a on, which then holds ys, and the front up to e is filled.
module _ (x y z : Option (List ℕ)) (a k e : ℕ) (xs ys : List ℕ) (before : Consumes x y (take a xs)) (within : a ≤ length xs) where
  came : (n : ℕ) → n ≤ length ys → Consumes y z (take n ys) → e ≡ a + n → Consumes x z (take e (put_mid a k xs ys))
  came n l c h =
      let front : take e (put_mid a k xs ys) ≡ take a xs ++ take n ys =
      ap (λ (i : ℕ). take i (put_mid a k xs ys)) (h ∙ ap (λ (i : ℕ). i + n) (sym (length-take-le a xs within)))
      ∙ take-append-add (take a xs) (ys ++ post_of a k xs) n
      ∙ ap (λ (zs : List ℕ). take a xs ++ zs) (take-append-le n ys (post_of a k xs) l) in
      subst (Consumes x z) (sym front) (Consumes-trans x y z (take a xs) (take n ys) before c)

  none_came : Keeps y z → e ≡ a → Consumes x z (take e (put_mid a k xs ys))
  none_came c h =
      let front : take e (put_mid a k xs ys) ≡ take a xs =
      ap (λ (i : ℕ). take i (put_mid a k xs ys)) h ∙ take-put_mid_below a k xs ys a (le_refl a) within in
      subst (Consumes x z) (sym front) (Consumes-kept x y z (take a xs) before c)

pub loop-preserved : goal.loop-preserved
loop-preserved g c = elim c.match-read.branch [
  | in-Ok w ↦ record {
    within = search rules;
    consumed = came _ _ _ _ _ _ _ _ c.loop.invariant.consumed c.loop.invariant.within w.in-Ok.count w.in-Ok.ensures.bound.0 w.in-Ok.ensures.bytes.0 w.end-is;
  }
  | in-Err w ↦ record {
    within = search rules;
    consumed = none_came _ _ _ _ _ _ _ _ c.loop.invariant.consumed c.loop.invariant.within w.in-Err.ensures.bytes w.end-is;
  }
]
