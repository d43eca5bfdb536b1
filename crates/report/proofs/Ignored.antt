-- Bytes after two of the longest frames do not count.
use Rattle.std.proofs.Common.{◌≡◌, ℕ, ◌+◌, ◌≤◌, true, false, List, ◌++◌, length, drop, ⊎_elim, arith}
use Rattle.std.proofs.lemmas.Bool.{cases_Bool}
use Rattle.std.proofs.lemmas.Bool.Decides.{nat_tests}
use Rattle.std.proofs.lemmas.List.{get_or_append_left, length-append, length-drop, drop-append-le, take-append-le}
use Rattle.report.specs.Frames.{length_given, framed, sheet_in, after_frame, left_refusal}
use Rattle.report.specs.Listing.{side_line, listing_of}

-- what a whole frame says
frame_limits : (bs : List ℕ) → framed bs ≡ true → (length_given bs ≤ 16627) × (2 + length_given bs ≤ length bs)
unfolding framed
frame_limits bs e = grind (arith, nat_tests)

-- bytes that the longest frame has room in
module _ (bs more : List ℕ) (long : 16629 ≤ length bs) where
  given_more : length_given (bs ++ more) ≡ length_given bs
  given_more = grind (arith, get_or_append_left)

  framed_more : framed (bs ++ more) ≡ framed bs
  unfolding framed
  framed_more = grind (arith, nat_tests, given_more, length-append bs more)

  sheet_more : framed bs ≡ true → sheet_in (bs ++ more) ≡ sheet_in bs
  sheet_more e =
      rw (given_more, drop-append-le 2 bs more (omega arith)) (take-append-le (length_given bs) (drop 2 bs) more (omega (arith, (frame_limits bs e).1, length-drop 2 bs)))

  after_more : framed bs ≡ true → after_frame (bs ++ more) ≡ after_frame bs ++ more
  after_more e = rw given_more (drop-append-le (2 + length_given bs) bs more (frame_limits bs e).1)

  -- the line of the frame at the front
  line_more : side_line (left_refusal (bs ++ more)) (sheet_in (bs ++ more)) ≡ side_line (left_refusal bs) (sheet_in bs)
  line_more = ⊎_elim
      (λ (e : framed bs ≡ true). rw (framed_more, e, sheet_more e))
      (λ (e : framed bs ≡ false). rw (framed_more, e))
      (cases_Bool (framed bs))

pub listing_more : (bs more : List ℕ) → 33258 ≤ length bs → listing_of (bs ++ more) ≡ listing_of bs
unfolding listing_of
listing_more bs more h =
    let long : 16629 ≤ length bs = omega arith in
    ⊎_elim
    (λ (e : framed bs ≡ true).
    let rest : 16629 ≤ length (after_frame bs) = omega (arith, (frame_limits bs e).0, length-drop (2 + length_given bs) bs) in
    rw (framed_more bs more long, e, sheet_more bs more long e, after_more bs more long e, line_more (after_frame bs) more rest))
    (λ (e : framed bs ≡ false). rw (framed_more bs more long, e))
    (cases_Bool (framed bs))
