-- The tokens of one side.
use Rattle.std.proofs.Common.{ℕ, ◌≤◌, inl, inr, arith}
use Rattle.std.proofs.lemmas.List.{get_or_past, length-take}
use Rattle.std.proofs.lemmas.Bool.{cases_lt}
use Rattle.finite.proofs.Sums.{term_le}
use Rattle.arrangement.specs.Arrangements.{at}
use Rattle.play.specs.Moves.{most_tokens}
use Rattle.play.proofs.Tokens.{at_held}
use Rattle.table.specs.Views.{net_of, held}
use Rattle.table.specs.declared.half.Half.{Half}

-- no place has more than a side may hold
pub held_within : (h : Half) (x : ℕ) → at (held h) x ≤ most_tokens
held_within h x =
    let n = (net_of h).places in
    elim (cases_lt x n) [
      | inl l ↦ omega (arith, at_held h.tokens n x l, term_le n (at h.tokens) x l, h.room)
      | inr l ↦ omega (arith, get_or_past (held h) x 0 (omega (arith, length-take n h.tokens)))
    ]
