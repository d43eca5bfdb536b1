-- The least row among transitions, taken one after the other.
use Rattle.std.proofs.Common.{◌≡◌, ℕ, ◌+◌, ◌<◌, true, sym, subst, inl, inr, arith}
use Rattle.std.proofs.lemmas.Bool.{cases_eq}
use Rattle.finite.specs.Lexicographic.{lower, at_most}
use Rattle.finite.proofs.Lexicographic.{at_most_trans}
use Rattle.net.specs.Model.{Model}
use Rattle.arrangement.specs.Arrangements.{row}
use Rattle.search.specs.Cells.{OrderedBy, LeastRow}
use Rattle.search.specs.Descent.{AtMostRows}
use Rattle.search.proofs.Comparing.{lower_at_most, row_label}
use Rattle.search.proofs.LeastRows.{least_low}

module _ (N : Model) (c : ℕ → ℕ) (r k : ℕ) (ts : ℕ → ℕ) where
  -- what is at most the rows of ts k too
  also : (y : ℕ → ℕ) (j : ℕ) → AtMostRows N c r k ts j y → ((b : ℕ → ℕ) → OrderedBy N.places c b → at_most (row N y (ts j)) (row N b (ts k)) ≡ true) → AtMostRows N c r (k + 1) ts j y
  also y j low here b ob z p q = elim (cases_eq z k) [
    | inl v ↦ subst (λ (u : ℕ). at_most (row N y (ts j)) (row N b (ts u)) ≡ true) (sym v) (here b ob)
    | inr v ↦ low b ob z p (omega arith)
  ]

  -- ts k has a higher label
  pub at_most_label : (y : ℕ → ℕ) (j : ℕ) → AtMostRows N c r k ts j y → N.transition_label (ts j) < N.transition_label (ts k) → AtMostRows N c r (k + 1) ts j y
  at_most_label y j low h = also y j low (λ b ob. lower_at_most _ _ (row_label N y b (ts j) (ts k) h))

  module _ (e x : ℕ → ℕ) (l : LeastRow N (ts k) c e x) where
    -- the least row of ts k is not lower
    pub at_most_more : (y : ℕ → ℕ) (j : ℕ) → AtMostRows N c r k ts j y → at_most (row N y (ts j)) (row N x (ts k)) ≡ true → AtMostRows N c r (k + 1) ts j y
    at_most_more y j low h = also y j low (λ b ob. at_most_trans (row N y (ts j)) (row N x (ts k)) (row N b (ts k)) h (least_low N (ts k) c e x l b ob))

    -- the least row of ts k is lower
    pub at_most_next : (y : ℕ → ℕ) (j : ℕ) → AtMostRows N c r k ts j y → lower (row N x (ts k)) (row N y (ts j)) ≡ true → AtMostRows N c r (k + 1) ts k x
    at_most_next y j low h = also x k
        (λ b ob z p q. at_most_trans (row N x (ts k)) (row N y (ts j)) (row N b (ts z)) (lower_at_most _ _ h) (low b ob z p q))
        (least_low N (ts k) c e x l)
