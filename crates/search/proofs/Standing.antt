-- The transitions sorted by rows are those that stand at each position.
use Rattle.std.proofs.Common.{◌≡◌, ℕ, zero, suc, ◌<◌, ◌≤◌, true, ltb, List, sym, ap, ◌∙◌, ap₂, inl, inr, arith}
use mathlib.Core.Path.{fun_ext}
use Rattle.std.specs.List.{range_with_len, flat_map}
use Rattle.std.proofs.lemmas.Bool.{cases_order, cases_lt, lt-ltb, le-ltb, both_ways, not-true}
use Rattle.finite.specs.Below.{count_below}
use Rattle.finite.specs.Lexicographic.{lower, at_most}
use Rattle.finite.specs.Injections.{inverse}
use Rattle.finite.proofs.Counts.{count_none, count_same}
use Rattle.finite.proofs.Injections.{count_next, count_stay, count_bijects, injects_bijects}
use Rattle.finite.proofs.Lexicographic.{lower_irrefl, lower_tri, lower_not}
use Rattle.finite.proofs.Tables.{joined_cong}
use Rattle.net.specs.Model.{Model}
use Rattle.arrangement.specs.Arrangements.{Distinct, Arrangement, row, position, standing, rows_along}
use Rattle.arrangement.proofs.Positions.{row_apart, standing_position, row_same, position_same}
use Rattle.search.specs.Rows.{Sorted, rows_of}

-- the numbers below j, counted
count_below_lem : (j n : ℕ) → j ≤ n → count_below n (λ k. ltb k j) ≡ j
count_below_lem j zero h = count_none (λ k. ltb k j) ∙ omega arith
count_below_lem j (suc n) h =
    elim (cases_lt n j) [
      | inl l ↦ let e : j ≡ suc n = omega arith in count_next n (λ k. ltb k j) (lt-ltb n j l) ∙ ap suc (count_same n (λ k. ltb k j) (λ k. ltb k n) (λ i m. lt-ltb i j (omega arith) ∙ sym (lt-ltb i n m)) ∙ count_below_lem n n (omega arith)) ∙ sym e
      | inr l ↦ count_stay n (λ k. ltb k j) (le-ltb n j l) ∙ count_below_lem j n l
    ]

-- sorted transitions stand at their positions
pub sorted_standing : (N : Model) (a : ℕ → ℕ) (ts : ℕ → ℕ) → Distinct N → Arrangement N a → Sorted N a ts → (j : ℕ) → j < N.transitions → standing N a j ≡ ts j
unfolding position
sorted_standing N a ts d o s j l =
    let inj = s.all in
    let m = N.transitions in
    let strict : (i k : ℕ) → i < k → k < m → lower (row N a (ts i)) (row N a (ts k)) ≡ true = λ i k x y.
    elim (lower_tri (row N a (ts i)) (row N a (ts k))) [
      | inl h ↦ h
      | inr (inl e) ↦ let z : i ≡ k = inj.apart i k (omega arith) y (row_apart N a d o (ts i) (ts k) (inj.lands i (omega arith)) (inj.lands k y) e) in absurd (omega arith)
      | inr (inr h) ↦ absurd (both_ways (lower (row N a (ts k)) (row N a (ts i))) (not-true _ (s.up i k x y)) h)
    ] in
    let test : (k : ℕ) → k < m → lower (row N a (ts k)) (row N a (ts j)) ≡ ltb k j = λ k y.
    elim (cases_order k j) [
      | inl e ↦ ap (λ (x : ℕ). lower (row N a (ts x)) (row N a (ts j))) e ∙ lower_irrefl (row N a (ts j)) ∙ sym (le-ltb k j (omega arith))
      | inr (inl h) ↦ strict k j h l ∙ sym (lt-ltb k j h)
      | inr (inr h) ↦ lower_not (row N a (ts j)) (row N a (ts k)) (strict j k h y) ∙ sym (le-ltb k j (omega arith))
    ] in
    let here : position N a (ts j) ≡ j =
    sym (count_bijects ts (inverse ts m) m m (injects_bijects ts m inj) (λ k. ltb k j) (λ u. lower (row N a u) (row N a (ts j))) test)
    ∙ count_below_lem j m (omega arith) in
    ap (standing N a) (sym here) ∙ standing_position N a d o (ts j) (inj.lands j l)

-- the rows depend on an order only at the numbers of places
pub rows_same : (N : Model) (a b : ℕ → ℕ) → ((i : ℕ) → i < N.places → a i ≡ b i) → rows_along N a ≡ rows_along N b
rows_same N a b h = ap₂ (λ (r : ℕ → List ℕ) (q : ℕ → ℕ). flat_map (λ j. r (inverse q N.transitions j)) (range_with_len 0 N.transitions)) (fun_ext (row_same N a b h)) (fun_ext (position_same N a b h))

-- the rows in a sorted order are the rows by position
pub sorted_rows : (N : Model) (a ts : ℕ → ℕ) → Distinct N → Arrangement N a → Sorted N a ts → rows_of N a ts ≡ rows_along N a
sorted_rows N a ts d o s = joined_cong _ _ N.transitions 0 (λ j l m. ap (row N a) (sym (sorted_standing N a ts d o s j (omega arith))))

-- sorted rows that are at most others are so by position too
pub sorted_at_most : (N : Model) (a ts b us : ℕ → ℕ) → Distinct N → Arrangement N a → Sorted N a ts → Arrangement N b → Sorted N b us → at_most (rows_of N a ts) (rows_of N b us) ≡ true → at_most (rows_along N a) (rows_along N b) ≡ true
sorted_at_most N a ts b us d oa sa ob sb h = sym (ap₂ at_most (sorted_rows N a ts d oa sa) (sorted_rows N b us d ob sb)) ∙ h
