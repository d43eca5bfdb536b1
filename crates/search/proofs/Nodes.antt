-- One step of the search: a transition with the least row stands next.
use Rattle.std.proofs.Common.{◌≡◌, ℕ, ◌+◌, ◌<◌, ◌≤◌, true, List, sym, ap, ◌∙◌, subst, ap₂, inl, inr, arith}
use Rattle.std.proofs.lemmas.List.Edits.{Swapped}
use Rattle.std.proofs.lemmas.Bool.{cases_eq, cases_lt, cases_order, both_ways, not-true}
use Rattle.finite.specs.Lexicographic.{lower, at_most}
use Rattle.finite.specs.Injections.{Injects}
use Rattle.finite.proofs.Injections.{onto}
use Rattle.finite.proofs.Lexicographic.{lower_tri, at_most_trans}
use Rattle.finite.proofs.Tables.{joined_cong}
use Rattle.net.specs.Model.{Model}
use Rattle.arrangement.specs.Arrangements.{Arrangement, Distinct, row, position, standing, rows_along}
use Rattle.arrangement.proofs.Positions.{row_length, row_apart, position_lands, position_lower, position_standing, standing_lands, standing_position}
use Rattle.search.specs.Cells.{OrderedBy, LeastRow}
use Rattle.search.specs.Descent.{Fixed, Chosen}
use Rattle.search.proofs.Comparing.{lower_at_most, lower_at_most_trans, joined_lower}
use Rattle.search.proofs.LeastWeights.{same_labels}
use Rattle.search.proofs.LeastRows.{least_coarse, least_same}

-- best is at most the rows along each order by c that has the row `least` for one of the transitions ts r, .., ts (n - 1)
abbrev pub Met : Model → (ℕ → ℕ) → ℕ → ℕ → (ℕ → ℕ) → List ℕ → List ℕ → Type 0
Met N c r n ts least best = (b : ℕ → ℕ) → OrderedBy N.places c b → (x : ℕ) → r ≤ x → x < n → row N b (ts x) ≡ least → at_most best (rows_along N b) ≡ true

-- a lower position is a lower row
position_row : (N : Model) (b : ℕ → ℕ) → Distinct N → Arrangement N b → (t u : ℕ) → t < N.transitions → u < N.transitions → position N b t < position N b u → lower (row N b t) (row N b u) ≡ true
position_row N b dist o t u l m h = elim (lower_tri (row N b t) (row N b u)) [
  | inl z ↦ z
  | inr (inl e) ↦ let z : position N b t ≡ position N b u = ap (position N b) (row_apart N b dist o t u l m e) in absurd (omega arith)
  | inr (inr z) ↦ let w : position N b u < position N b t = position_lower N b u t m z in absurd (omega arith)
]

-- the rows along a are at most those along b where they agree before r and the row at r is lower
rows_lower : (N : Model) (a b : ℕ → ℕ) (r : ℕ) → r < N.transitions → ((k : ℕ) → k < r → row N a (standing N a k) ≡ row N b (standing N b k)) → lower (row N a (standing N a r)) (row N b (standing N b r)) ≡ true
    → at_most (rows_along N a) (rows_along N b) ≡ true
rows_lower N a b r few same h =
    lower_at_most _ _ (joined_lower (λ j. row N a (standing N a j)) (λ j. row N b (standing N b j)) N.transitions 0 r (λ k. row_length N a _ ∙ sym (row_length N b _)) (omega arith) (omega arith) same h)

-- the first r rows are fixed, and no row of another transition is below `least`
module _ (N : Model) (dist : Distinct N) (c : ℕ → ℕ) (r : ℕ) (ts : ℕ → ℕ) (rows : ℕ → List ℕ) (least : List ℕ)
    (few : r < N.transitions) (all : Injects ts N.transitions N.transitions)
    (within : (b : ℕ → ℕ) → OrderedBy N.places c b → Arrangement N b)
    (fixed : Fixed N c r ts rows)
    (low : (b : ℕ → ℕ) → OrderedBy N.places c b → (x : ℕ) → r ≤ x → x < N.transitions → at_most least (row N b (ts x)) ≡ true) where
  -- what stands at r is none of the fixed transitions
  open_at : (b : ℕ → ℕ) → OrderedBy N.places c b → (x : ℕ) × (r ≤ x) × (x < N.transitions) × (ts x ≡ standing N b r)
  open_at b ob =
      let o = within b ob in
      let z = onto ts N.transitions all (standing N b r) (standing_lands N b dist o r few) in (
        z.0,
        elim (cases_lt z.0 r) [
          | inl h ↦
              let e : standing N b z.0 ≡ standing N b r = (fixed b ob z.0 h).0 ∙ z.2 in
              let p : z.0 ≡ r = sym (position_standing N b dist o z.0 z.1) ∙ ap (position N b) e ∙ position_standing N b dist o r few in
              absurd (omega arith)
          | inr h ↦ h
        ],
        z.1,
        z.2,
      )

  -- a transition with the least row stands at r
  pub least_stands : (b : ℕ → ℕ) → OrderedBy N.places c b → (x : ℕ) → r ≤ x → x < N.transitions → row N b (ts x) ≡ least → standing N b r ≡ ts x
  least_stands b ob x l k e =
      let o = within b ob in
      let t = ts x in
      let in-t : t < N.transitions = all.lands x k in
      let p = position N b t in
      let in_p : p < N.transitions = position_lands N b t in-t in
      let back : standing N b p ≡ t = standing_position N b dist o t in-t in
      elim (cases_order p r) [
        | inl z ↦ ap (standing N b) (sym z) ∙ back
        | inr (inl z) ↦ let y : p ≡ x = all.apart p x in_p k (sym (fixed b ob p z).0 ∙ back) in absurd (omega arith)
        | inr (inr z) ↦
            let u = open_at b ob in
            let q : position N b (standing N b r) ≡ r = position_standing N b dist o r few in
            let h : lower (row N b (standing N b r)) (row N b t) ≡ true = position_row N b dist o (standing N b r) t (standing_lands N b dist o r few) in-t (omega arith) in
            absurd (both_ways (lower (row N b (ts u.0)) least) (not-true _ (low b ob u.0 u.1 u.2)) (subst (λ (v : ℕ). lower (row N b v) least ≡ true) (sym u.3) (subst (λ (v : List ℕ). lower (row N b (standing N b r)) v ≡ true) e h)))
      ]

  -- where each ts with the least row at r has been met, every ts has
  pub covered : (best : List ℕ) (b0 : ℕ → ℕ) (x0 : ℕ) → OrderedBy N.places c b0 → r ≤ x0 → x0 < N.transitions → row N b0 (ts x0) ≡ least
      → Met N c r N.transitions ts least best
      → (b : ℕ → ℕ) → OrderedBy N.places c b → at_most best (rows_along N b) ≡ true
  covered best b0 x0 ob0 l0 k0 e0 met b ob =
      let u = open_at b ob in
      elim (lower_tri least (row N b (ts u.0))) [
        | inl h ↦
            at_most_trans best (rows_along N b0) (rows_along N b) (met b0 ob0 x0 l0 k0 e0) (rows_lower N b0 b r few
            (λ k z. ap (row N b0) (fixed b0 ob0 k z).0 ∙ (fixed b0 ob0 k z).1 ∙ sym (fixed b ob k z).1 ∙ ap (row N b) (sym (fixed b ob k z).0))
            (ap₂ lower (ap (row N b0) (least_stands b0 ob0 x0 l0 k0 e0) ∙ e0) (ap (row N b) (sym u.3)) ∙ h))
        | inr (inl e) ↦ met b ob u.0 u.1 u.2 (sym e)
        | inr (inr h) ↦ absurd (both_ways _ (not-true _ (low b ob u.0 u.1 u.2)) h)
      ]

  -- where the best has the fixed rows, and at r a row below the least one, nothing here is lower
  pub cut : (best : ℕ → ℕ) → ((k : ℕ) → k < r → row N best (standing N best k) ≡ rows k) → lower (row N best (standing N best r)) least ≡ true
      → (b : ℕ → ℕ) → OrderedBy N.places c b → at_most (rows_along N best) (rows_along N b) ≡ true
  cut best same h b ob =
      let u = open_at b ob in
      rows_lower N best b r few
      (λ k z. same k z ∙ sym (fixed b ob k z).1 ∙ ap (row N b) (sym (fixed b ob k z).0))
      (subst (λ (v : ℕ). lower (row N best (standing N best r)) (row N b v) ≡ true) u.3 (lower_at_most_trans _ least _ h (low b ob u.0 u.1 u.2)))

-- where each number has a label of its own, there is one order
pub only_one : (n : ℕ) (c a b : ℕ → ℕ) → OrderedBy n c a → OrderedBy n c b → ((x y : ℕ) → x < y → y < n → c (a x) < c (a y)) → (i : ℕ) → i < n → a i ≡ b i
only_one n c a b oa ob apart i l =
    let r = onto a n oa.permutes (b i) (ob.permutes.lands i l) in
    let e : c (a r.0) ≡ c (a i) = ap c r.2 ∙ sym (same_labels n c a b oa ob i l) in
    elim (cases_order r.0 i) [
      | inl z ↦ ap a (sym z) ∙ r.2
      | inr (inl z) ↦ absurd (omega (arith, apart r.0 i z l))
      | inr (inr z) ↦ absurd (omega (arith, apart i r.0 z r.1))
    ]

-- where all rows are fixed, each order has the same
pub all_fixed : (N : Model) (c : ℕ → ℕ) (r : ℕ) (order : ℕ → ℕ) (rows : ℕ → List ℕ) → N.transitions ≤ r → Fixed N c r order rows → (a b : ℕ → ℕ) → OrderedBy N.places c a → OrderedBy N.places c b → rows_along N a ≡ rows_along N b
all_fixed N c r order rows l fixed a b oa ob = joined_cong _ _ N.transitions 0 (λ j x y.
    ap (row N a) (fixed a oa j (omega arith)).0 ∙ (fixed a oa j (omega arith)).1 ∙ sym (fixed b ob j (omega arith)).1 ∙ ap (row N b) (sym (fixed b ob j (omega arith)).0))

-- the next transition is fixed too
pub fixed_more : (N : Model) → Distinct N → (c e : ℕ → ℕ) (r : ℕ) (order next : ℕ → ℕ) (a x : ℕ → ℕ) (k : ℕ) → Injects order N.transitions N.transitions
    → ((b : ℕ → ℕ) → OrderedBy N.places c b → Arrangement N b) → Fixed N c r order (λ j. row N a (order j)) → Chosen N c r order k x
    → LeastRow N (order k) c e x → Swapped order next r k
    → Fixed N e (r + 1) next (λ j. row N x (next j))
fixed_more N dist c e r order next a x k all within fixed ch least s b ob j h =
    let few : r < N.transitions = omega (arith, ch.late, ch.early) in
    let cb : OrderedBy N.places c b = least_coarse N (order k) c e x least b ob in
    elim (cases_eq j r) [
      | inl z ↦
          let n : next j ≡ order k = ap next z ∙ s.0 in
          let row-b : row N b (order k) ≡ row N x (order k) = least_same N (order k) c e x least b ob in (
            ap (standing N b) z ∙ least_stands N dist c r order (λ j. row N a (order j)) (row N x (order k)) few all within fixed ch.low b cb k ch.late ch.early row-b ∙ sym n,
            ap (row N b) n ∙ row-b ∙ ap (row N x) (sym n),
          )
      | inr z ↦
          let n : next j ≡ order j = s.2 j z (λ v. let l : r ≤ k = ch.late in omega arith) in (
            (fixed b cb j (omega arith)).0 ∙ sym n,
            ap (row N b) n ∙ (fixed b cb j (omega arith)).1 ∙ sym (fixed x ch.orders j (omega arith)).1 ∙ ap (row N x) (sym n),
          )
    ]
