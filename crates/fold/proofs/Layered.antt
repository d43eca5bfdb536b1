-- What a folded net reads from the net below.
use Rattle.std.proofs.Common.{◌≡◌, ℕ, ◌<◌, ◌≤◌, true, false, cond, List, get_or, Some, None, Option, sym, refl, ap, ◌∙◌, subst, ap₂, inl, inr, arith, MatchOption}
use Rattle.std.proofs.lemmas.Bool.{cases_Bool, and_parts, eqb-true, cond-true, cond-false}
use Rattle.net.specs.Model.{Model}
use Rattle.net.specs.Bags.{weights}
use Rattle.net.specs.declared.bag.Bag.{Bag}
use Rattle.net.specs.declared.bag.Bag.TheVariants.{Cause, Effect}
use Rattle.net.specs.declared.numbers.Label.{Label}
use Rattle.bisimulation.specs.Groups.{Groups}
use Rattle.bisimulation.specs.Rounds.{group_count, final}
use Rattle.bisimulation.specs.Leaders.{groups, leader}
use Rattle.bisimulation.specs.Folding.{leader_label, folded_weight, fold}
use Rattle.bisimulation.specs.Bisimulation.{Alike}
use Rattle.bisimulation.proofs.Leaders.{leader_lands}
use Rattle.bisimulation.proofs.Folded.{label_is, weight_is}
use Rattle.bisimulation.proofs.Ranges.{SameGroups}
use Rattle.bisimulation.proofs.FoldSame.{fold_alike}
use Rattle.fold.specs.declared.grouping.Grouping.{Grouping}
use Rattle.fold.specs.Grouped.{groups_of}
use Rattle.fold.specs.Images.{by_image}
use Rattle.fold.specs.Together.{together}
use Rattle.fold.specs.Listing.{NumberOfGroups, Lists}
use Rattle.fold.specs.Layer.{fits, folded_by}

-- a label that is read at x, of n, is the answer at p, of k
label_from : (r : Option Label) (n x k p : ℕ) (below above : ℕ → ℕ) → x < n → p < k → below x ≡ above p →
    MatchOption r (n ≤ x) (λ l. (x < n) × (l.0 ≡ below x)) → MatchOption r (k ≤ p) (λ l. (p < k) × (l.0 ≡ above p))
label_from None n x k p below above i j e h = absurd (omega arith)
label_from (Some l) n x k p below above i j e h = (j, h.1 ∙ e)

-- a listed group of the numbers below n, by their leaders
module _ (leaders : List ℕ) (n count : ℕ) (listed : List ℕ) (g : ℕ) where
  pub leader_below : NumberOfGroups (together leaders) n count → Lists (together leaders) n count listed → g < count → get_or listed g 0 < n
  leader_below counted lists l =
      omega (arith, lists g l, leader_lands n (together leaders) (by_image n (λ i. get_or leaders i 0)) g (omega (arith, counted)))

  -- the label that is read at its leader x, of as many numbers
  pub label_read :
      (k : ℕ) (label : ℕ → ℕ) (r : Option Label) (x : ℕ) → k ≡ n → x ≡ get_or listed g 0 →
      NumberOfGroups (together leaders) n count → Lists (together leaders) n count listed → g < count →
      MatchOption r (k ≤ x) (λ l. (x < k) × (l.0 ≡ label x)) →
      MatchOption r (groups (together leaders) k ≤ g)
      (λ l. (g < groups (together leaders) k) × (l.0 ≡ leader_label (together leaders) k label g))
  label_read k label r x e is counted lists l =
      let at : g < groups (together leaders) k = omega (arith, counted, ap (groups (together leaders)) e) in
      label_from r k x (groups (together leaders) k) g label (leader_label (together leaders) k label)
      (omega (arith, leader_below counted lists l)) at
      (ap label (is ∙ lists g l ∙ ap (λ (i : ℕ). leader (together leaders) i g) (sym e))
      ∙ sym (label_is (together leaders) k label g at))

-- the weights of either bag of a folded net
fold_weights : (bag : Bag) (m : Model) (r : Groups) → weights bag (fold m r) ≡ folded_weight m r (weights bag m)
fold_weights Cause m r = refl
fold_weights Effect m r = refl

module _ (m : Model) (g : Grouping) where
  pub places_fit : fits m g ≡ true → m.places ≡ g.places.members
  places_fit e = eqb-true _ _ (and_parts _ _ e).0

  pub transitions_fit : fits m g ≡ true → m.transitions ≡ g.transitions.members
  transitions_fit e = eqb-true _ _ (and_parts _ _ e).1

  is_fold : fits m g ≡ true → folded_by m g ≡ fold m (groups_of g)
  is_fold e = cond-true (fits m g) (fold m (groups_of g)) m e

  is_net : fits m g ≡ false → folded_by m g ≡ m
  is_net e = cond-false (fits m g) (fold m (groups_of g)) m e

  -- folded by its own groups at rest, a net is alike to itself
  pub layer_alike : fits m g ≡ true → SameGroups m (groups_of g) (final m) → Alike (folded_by m g) m
  layer_alike e h = subst (λ (o : Model). Alike o m) (sym (is_fold e)) (fold_alike m (groups_of g) h)

  -- a kind of node: how many of them a net has, and their labels
  module _ (size : Model → ℕ) (label : Model → ℕ → ℕ) (leaders : List ℕ) (n : ℕ) (same : fits m g ≡ true → size m ≡ n)
      (sized : size (fold m (groups_of g)) ≡ groups (together leaders) (size m))
      (labelled : label (fold m (groups_of g)) ≡ leader_label (together leaders) (size m) (label m))
      (count : ℕ) (listed : List ℕ) (counted : NumberOfGroups (together leaders) n count) (lists : Lists (together leaders) n count listed) where
    pub label_answers : (p x : ℕ) (r : Option Label) → (fits m g ≡ true → p < count) → x ≡ cond (fits m g) (get_or listed p 0) p →
        MatchOption r (size m ≤ x) (λ l. (x < size m) × (l.0 ≡ label m x)) →
        MatchOption r (size (folded_by m g) ≤ p) (λ l. (p < size (folded_by m g)) × (l.0 ≡ label (folded_by m g) p))
    label_answers p x r below is h = elim (cases_Bool (fits m g)) [
      | inl y ↦
          subst (λ (o : Model). MatchOption r (size o ≤ p) (λ l. (p < size o) × (l.0 ≡ label o p))) (sym (is_fold y))
          (rw (sized, labelled) (label_read leaders n count listed p (size m) (label m) r x (same y) (is ∙ cond-true (fits m g) (get_or listed p 0) p y) counted lists (below y) h))
      | inr y ↦
          subst (λ (o : Model). MatchOption r (size o ≤ p) (λ l. (p < size o) × (l.0 ≡ label o p))) (sym (is_net y))
          (subst (λ (i : ℕ). MatchOption r (size m ≤ i) (λ l. (i < size m) × (l.0 ≡ label m i))) (is ∙ cond-false (fits m g) (get_or listed p 0) p y) h)
    ]

  pub weight_read : fits m g ≡ true →
      (bag : Bag) (t p u q : ℕ) →
      t < groups (groups_of g).same_transition g.transitions.members → p < groups (groups_of g).same_place g.places.members →
      u ≡ leader (groups_of g).same_transition g.transitions.members t → q ≡ leader (groups_of g).same_place g.places.members p →
      group_count m.places (groups_of g).same_place (weights bag m u) q ≡ weights bag (folded_by m g) t p
  weight_read e bag t p u q k l a b =
      ap₂ (λ (x y : ℕ). group_count m.places (groups_of g).same_place (weights bag m x) y)
      (a ∙ ap (λ (n : ℕ). leader (groups_of g).same_transition n t) (sym (transitions_fit e)))
      (b ∙ ap (λ (n : ℕ). leader (groups_of g).same_place n p) (sym (places_fit e)))
      ∙ sym (weight_is m (groups_of g) (weights bag m) t p
      (omega (arith, ap (groups (groups_of g).same_transition) (transitions_fit e))) (omega (arith, ap (groups (groups_of g).same_place) (places_fit e))))
      ∙ ap (λ (w : ℕ → ℕ → ℕ). w t p) (sym (fold_weights bag m (groups_of g)))
      ∙ ap (λ (o : Model). weights bag o t p) (sym (is_fold e))
