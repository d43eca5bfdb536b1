-- The least row of a transition over the orders by given labels, and the orders that have it.
use Rattle.std.proofs.Common.{◌≡◌, ℕ, true, List, refl, subst, inl, inr}
use Rattle.std.proofs.lemmas.Bool.{both_ways, not-true}
use Rattle.finite.specs.Lexicographic.{at_most}
use Rattle.finite.proofs.Lexicographic.{lower_tri, at_most_self, at_most_anti}
use Rattle.finite.proofs.Tables.{tabulate_cong}
use Rattle.net.specs.Model.{Model}
use Rattle.arrangement.specs.Arrangements.{row}
use Rattle.arrangement.proofs.Positions.{row_parts}
use Rattle.search.specs.Cells.{OrderedBy, Finer, LeastRow}
use Rattle.search.proofs.Comparing.{causes_along, effects_along, lower_at_most, row_causes, row_effects, row_alike}
use Rattle.search.proofs.LeastWeights.{coarse, least_weights, least_finer}

-- labels made finer by the causes of t, and then by its effects
module _ (N : Model) (t : ℕ) (c d e : ℕ → ℕ) (one : Finer N.places c (N.cause t) d) (two : Finer N.places d (N.effect t) e) (a b : ℕ → ℕ) (oa : OrderedBy N.places e a) (ob : OrderedBy N.places c b) where
  -- such an order is an order by the labels in the middle
  middle : OrderedBy N.places d a
  middle = coarse N.places d (N.effect t) e two a oa

  -- an order by the finest labels has the least row of t
  pub least_row_lem : at_most (row N a t) (row N b t) ≡ true
  least_row_lem = elim (lower_tri (causes_along N a t) (causes_along N b t)) [
    | inl h ↦ lower_at_most _ _ (row_causes N a b t t refl h)
    | inr (inl same) ↦
        let finer : OrderedBy N.places d b = least_finer N.places c (N.cause t) d one a b middle ob same in
        elim (lower_tri (effects_along N a t) (effects_along N b t)) [
          | inl h ↦ lower_at_most _ _ (row_effects N a b t t refl same h)
          | inr (inl alike) ↦ subst (λ (z : List ℕ). at_most (row N a t) z ≡ true) (row_alike N a b t t refl same alike) (at_most_self (row N a t))
          | inr (inr h) ↦ absurd (both_ways _ (not-true _ (least_weights N.places d (N.effect t) e two a b oa finer)) h)
        ]
    | inr (inr h) ↦ absurd (both_ways _ (not-true _ (least_weights N.places c (N.cause t) d one a b middle ob)) h)
  ]

  -- an order with that row is by the finest labels
  pub least_row_by : row N a t ≡ row N b t → OrderedBy N.places e b
  least_row_by h =
      let parts = row_parts N N a b t t refl h in
      let finer : OrderedBy N.places d b = least_finer N.places c (N.cause t) d one a b middle ob (tabulate_cong _ _ _ _ refl parts.1) in
      least_finer N.places d (N.effect t) e two a b oa finer (tabulate_cong _ _ _ _ refl parts.2)

-- no order by the labels has a lower row
pub least_low : (N : Model) (t : ℕ) (c e x : ℕ → ℕ) → LeastRow N t c e x → (b : ℕ → ℕ) → OrderedBy N.places c b → at_most (row N x t) (row N b t) ≡ true
least_low N t c e x l b ob = least_row_lem N t c l.middle e l.causes l.effects x b l.orders ob

-- an order by the finer labels is an order by the labels
pub least_coarse : (N : Model) (t : ℕ) (c e x : ℕ → ℕ) → LeastRow N t c e x → (b : ℕ → ℕ) → OrderedBy N.places e b → OrderedBy N.places c b
least_coarse N t c e x l b ob = coarse N.places c (N.cause t) l.middle l.causes b (coarse N.places l.middle (N.effect t) e l.effects b ob)

-- each order by the finer labels has the least row
pub least_same : (N : Model) (t : ℕ) (c e x : ℕ → ℕ) → LeastRow N t c e x → (b : ℕ → ℕ) → OrderedBy N.places e b → row N b t ≡ row N x t
least_same N t c e x l b ob = at_most_anti _ _
    (least_row_lem N t c l.middle e l.causes l.effects b x ob (least_coarse N t c e x l x l.orders))
    (least_low N t c e x l b (least_coarse N t c e x l b ob))

-- an order by the labels with the least row is an order by the finer labels
pub least_back : (N : Model) (t : ℕ) (c e x : ℕ → ℕ) → LeastRow N t c e x → (b : ℕ → ℕ) → OrderedBy N.places c b → row N x t ≡ row N b t → OrderedBy N.places e b
least_back N t c e x l b ob h = least_row_by N t c l.middle e l.causes l.effects x b l.orders ob h
