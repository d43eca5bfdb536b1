-- The positions of the transitions of an arrangement are the numbers below their number, each once.
use Rattle.std.proofs.Common.{◌≡◌, ℕ, suc, ◌+◌, ◌<◌, true, ◌∷◌, ◌++◌, length, sym, refl, ap, ◌∙◌, subst, ap₂, ⊎_elim, arith}
use Rattle.std.proofs.lemmas.List.{length-append}
use Rattle.std.proofs.lemmas.List.FromFn.{length-map-range_with_len}
use Rattle.finite.specs.Lexicographic.{lower}
use Rattle.finite.specs.Below.{count_below}
use Rattle.finite.specs.Injections.{Injects, tabulate}
use Rattle.net.specs.Model.{Model}
use Rattle.arrangement.specs.Arrangements.{Distinct, Arrangement, row, position, standing}
use Rattle.finite.proofs.Lexicographic.{lower_irrefl, lower_trans, lower_tri}
use Rattle.finite.proofs.Counts.{count_lt, count_same}
use Rattle.finite.proofs.Injections.{count_all, onto, inverse_lands, inverse_right, inverse_left}
use Rattle.finite.proofs.Tables.{tabulate_same, tabulate_cong, append_parts}

pub row_length : (N : Model) (a : ℕ → ℕ) (t : ℕ) → length (row N a t) ≡ suc (N.places + N.places)
unfolding row
row_length N a t = ap suc (length-append (tabulate (λ i. N.cause t (a i)) N.places) _ ∙ ap₂ ◌+◌ (length-map-range_with_len _ 0 N.places) (length-map-range_with_len _ 0 N.places))

-- equal rows of two nets of one size, taken apart
pub row_parts : (F G : Model) (a b : ℕ → ℕ) (t u : ℕ) → F.places ≡ G.places → row F a t ≡ row G b u → (F.transition_label t ≡ G.transition_label u) × ((i : ℕ) → i < F.places → F.cause t (a i) ≡ G.cause u (b i)) × ((i : ℕ) → i < F.places → F.effect t (a i) ≡ G.effect u (b i))
unfolding row
row_parts F G a b t u s e =
    let n = F.places in
    let e' : row F a t ≡ (G.transition_label u ∷ (tabulate (λ i. G.cause u (b i)) n ++ tabulate (λ i. G.effect u (b i)) n)) = e ∙ ap (λ (k : ℕ). G.transition_label u ∷ (tabulate (λ i. G.cause u (b i)) k ++ tabulate (λ i. G.effect u (b i)) k)) (sym s) in
    let tails : (tabulate (λ i. F.cause t (a i)) n ++ tabulate (λ i. F.effect t (a i)) n) ≡ (tabulate (λ i. G.cause u (b i)) n ++ tabulate (λ i. G.effect u (b i)) n) = cc in
    let parts = append_parts _ _ _ _ (length-map-range_with_len (λ i. F.cause t (a i)) 0 n ∙ sym (length-map-range_with_len (λ i. G.cause u (b i)) 0 n)) tails in (
      cc,
      (λ i l. tabulate_same (λ i. F.cause t (a i)) (λ i. G.cause u (b i)) n i l parts.0),
      (λ i l. tabulate_same (λ i. F.effect t (a i)) (λ i. G.effect u (b i)) n i l parts.1),
    )

-- in an arrangement two transitions have two rows
pub row_apart : (N : Model) (a : ℕ → ℕ) → Distinct N → Arrangement N a → (t u : ℕ) → t < N.transitions → u < N.transitions → row N a t ≡ row N a u → t ≡ u
row_apart N a d o t u l m e =
    let parts = row_parts N N a a t u refl e in
    d.apart t u l m parts.0
    (λ p k. let r = onto a N.places o.permutes p k in subst (λ x. N.cause t x ≡ N.cause u x) r.2 (parts.1 r.0 r.1))
    (λ p k. let r = onto a N.places o.permutes p k in subst (λ x. N.effect t x ≡ N.effect u x) r.2 (parts.2 r.0 r.1))

pub position_lands : (N : Model) (a : ℕ → ℕ) (t : ℕ) → t < N.transitions → position N a t < N.transitions
unfolding position
position_lands N a t l =
    let h : count_below N.transitions (λ u. lower (row N a u) (row N a t)) < count_below N.transitions (λ _. true) = count_lt N.transitions (λ u. lower (row N a u) (row N a t)) (λ _. true) (λ i k z. refl) t l (lower_irrefl (row N a t)) refl in
    omega (arith, count_all N.transitions)

-- a lower row stands at a lower position
pub position_lower : (N : Model) (a : ℕ → ℕ) (t u : ℕ) → t < N.transitions → lower (row N a t) (row N a u) ≡ true → position N a t < position N a u
unfolding position
position_lower N a t u l h = count_lt N.transitions (λ v. lower (row N a v) (row N a t)) (λ v. lower (row N a v) (row N a u)) (λ i k z. lower_trans (row N a i) (row N a t) (row N a u) z h) t l (lower_irrefl (row N a t)) h

pub position_apart : (N : Model) (a : ℕ → ℕ) → Distinct N → Arrangement N a → (t u : ℕ) → t < N.transitions → u < N.transitions → position N a t ≡ position N a u → t ≡ u
position_apart N a d o t u l m e =
    ⊎_elim (λ h. absurd (omega (arith, position_lower N a t u l h)))
    (⊎_elim (λ h. row_apart N a d o t u l m h) (λ h. absurd (omega (arith, position_lower N a u t m h))))
    (lower_tri (row N a t) (row N a u))

-- so `position` is one to one, and by the pigeonhole principle onto
pub position_injects : (N : Model) (a : ℕ → ℕ) → Distinct N → Arrangement N a → Injects (position N a) N.transitions N.transitions
position_injects N a d o = record { lands = position_lands N a; apart = position_apart N a d o }

pub position_onto : (N : Model) (a : ℕ → ℕ) → Distinct N → Arrangement N a → (j : ℕ) → j < N.transitions → (t : ℕ) × (t < N.transitions) × (position N a t ≡ j)
position_onto N a d o = onto (position N a) N.transitions (position_injects N a d o)

pub standing_lands : (N : Model) (a : ℕ → ℕ) → Distinct N → Arrangement N a → (j : ℕ) → j < N.transitions → standing N a j < N.transitions
standing_lands N a d o = inverse_lands (position N a) N.transitions (position_injects N a d o)

pub position_standing : (N : Model) (a : ℕ → ℕ) → Distinct N → Arrangement N a → (j : ℕ) → j < N.transitions → position N a (standing N a j) ≡ j
position_standing N a d o = inverse_right (position N a) N.transitions (position_injects N a d o)

pub standing_position : (N : Model) (a : ℕ → ℕ) → Distinct N → Arrangement N a → (t : ℕ) → t < N.transitions → standing N a (position N a t) ≡ t
standing_position N a d o = inverse_left (position N a) N.transitions (position_injects N a d o)

-- rows and positions depend on an order only at the numbers of places
pub row_same : (N : Model) (a b : ℕ → ℕ) → ((i : ℕ) → i < N.places → a i ≡ b i) → (t : ℕ) → row N a t ≡ row N b t
unfolding row
row_same N a b h t = ap (◌∷◌ (N.transition_label t)) (ap₂ ◌++◌ (tabulate_cong _ _ _ _ refl (λ i k. ap (N.cause t) (h i k))) (tabulate_cong _ _ _ _ refl (λ i k. ap (N.effect t) (h i k))))

pub position_same : (N : Model) (a b : ℕ → ℕ) → ((i : ℕ) → i < N.places → a i ≡ b i) → (t : ℕ) → position N a t ≡ position N b t
unfolding position
position_same N a b h t = count_same N.transitions _ _ (λ u l. ap₂ lower (row_same N a b h u) (row_same N a b h t))
