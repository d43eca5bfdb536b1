-- Groups that agree in range fold a net to the same net.
use Rattle.std.proofs.Common.{◌≡◌, ℕ, ◌<◌, Bool, cond, ltb, sym, ap, ◌∙◌, subst, ap₂, arith}
use mathlib.Core.Path.{fun_ext}
use Rattle.finite.proofs.Given.{given}
use Rattle.net.specs.Model.{Model}
use Rattle.net.proofs.Agrees.{same_weights, same_answers}
use Rattle.bisimulation.specs.Groups.{Groups, Equivalences}
use Rattle.bisimulation.specs.Rounds.{group_count, final}
use Rattle.bisimulation.specs.Leaders.{groups, leader}
use Rattle.bisimulation.specs.Folding.{leader_label, folded_weight, fold}
use Rattle.bisimulation.specs.Bisimulation.{Alike}
use Rattle.bisimulation.proofs.Bags.{counts_in}
use Rattle.bisimulation.proofs.Leaders.{leader_lands}
use Rattle.bisimulation.proofs.Ranges.{SameGroups, same_back, equivalences_same, groups_like, leader_like}
use Rattle.bisimulation.proofs.Equivalences.{final_equivalences}
use Rattle.bisimulation.proofs.Folded.{weight_is, fold_outside}
use Rattle.bisimulation.proofs.Alike.{folded_alike_lem}

same_labels :
    (n : ℕ) (old new : ℕ → ℕ → Bool) → ((a b : ℕ) → a < n → b < n → old a b ≡ new a b) → (label : ℕ → ℕ) →
    leader_label old n label ≡ leader_label new n label
same_labels n old new h label =
    fun_ext (λ g. ap₂ (λ (k x : ℕ). cond (ltb g k) (label x) 0) (groups_like n old new h) (leader_like n old new h g))

module _ (m : Model) (r s : Groups) (E : Equivalences m r) (h : SameGroups m r s) where
  -- the groups' leaders agree
  place_groups_lem : groups r.same_place m.places ≡ groups s.same_place m.places
  place_groups_lem = groups_like m.places r.same_place s.same_place h.on_places

  transition_groups_lem : groups r.same_transition m.transitions ≡ groups s.same_transition m.transitions
  transition_groups_lem = groups_like m.transitions r.same_transition s.same_transition h.on_transitions

  place_leader_lem : (g : ℕ) → leader r.same_place m.places g ≡ leader s.same_place m.places g
  place_leader_lem = leader_like m.places r.same_place s.same_place h.on_places

  transition_leader : (g : ℕ) → leader r.same_transition m.transitions g ≡ leader s.same_transition m.transitions g
  transition_leader = leader_like m.transitions r.same_transition s.same_transition h.on_transitions

  same_inside :
      (weight : ℕ → ℕ → ℕ) (t p : ℕ) →
      t < groups r.same_transition m.transitions →
      p < groups r.same_place m.places →
      folded_weight m r weight t p ≡ folded_weight m s weight t p
  same_inside weight t p l k =
      given (leader_lands m.places r.same_place E.on_places p k) λ j.
      weight_is m r weight t p l k
      ∙ counts_in m.places r.same_place s.same_place _ _ _
      (λ x i. h.on_places x _ i j ∙ ap (λ (y : ℕ). s.same_place x y) (place_leader_lem p))
      ∙ ap (λ (u : ℕ). group_count m.places s.same_place (weight u) (leader s.same_place m.places p)) (transition_leader t)
      ∙ sym (weight_is m s weight t p (omega (arith, transition_groups_lem)) (omega (arith, place_groups_lem)))

  same_folded : (weight : ℕ → ℕ → ℕ) → folded_weight m r weight ≡ folded_weight m s weight
  same_folded weight =
      same_weights (fold m r) (fold m s) place_groups_lem transition_groups_lem (folded_weight m r weight) (folded_weight m s weight)
      (fold_outside m r weight) (fold_outside m s weight) (same_inside weight)

  pub fold_same : fold m r ≡ fold m s
  fold_same =
      same_answers (fold m r) (fold m s) place_groups_lem transition_groups_lem
      (same_labels m.places r.same_place s.same_place h.on_places m.place_label)
      (same_labels m.transitions r.same_transition s.same_transition h.on_transitions m.transition_label)
      (same_folded m.cause) (same_folded m.effect)

-- folded by what are in range its own groups at rest, a net is alike to itself
pub fold_alike : (m : Model) (r : Groups) → SameGroups m r (final m) → Alike (fold m r) m
fold_alike m r h =
    given (equivalences_same m (final m) r (same_back m r (final m) h) (final_equivalences m)) λ E.
    subst (λ x. Alike x m) (sym (fold_same m r (final m) E h)) (folded_alike_lem m)
