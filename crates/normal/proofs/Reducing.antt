-- The sheet of a ranked net is the least, and the seats along the ranking are seats of the net.
use Rattle.std.proofs.Common.{◌≡◌, ℕ, suc, ◌<◌, ◌≤◌, eqb, Option, MatchOption, List, sym, refl, ap, ◌∙◌, subst, ap₂}
use Rattle.std.proofs.lemmas.Bool.{and_from, eq-eqb, cond-true}
use Rattle.finite.specs.Products.{product_below}
use Rattle.finite.specs.Injections.{Injects, inverse}
use Rattle.finite.proofs.Given.{given}
use Rattle.finite.proofs.Counts.{count_same}
use Rattle.finite.proofs.Products.{product_same}
use Rattle.finite.proofs.Injections.{inverse_left}
use Rattle.net.specs.Model.{Model, Lawful}
use Rattle.bisimulation.specs.Rounds.{final}
use Rattle.bisimulation.specs.Folding.{folded}
use Rattle.bisimulation.proofs.Equivalences.{final_equivalences}
use Rattle.bisimulation.proofs.FoldSame.{fold_same}
use Rattle.bisimulation.proofs.Ranges.{same_back, equivalences_same}
use Rattle.fold.specs.declared.grouping.Grouping.{Grouping}
use Rattle.fold.specs.Divides.{Divides}
use Rattle.fold.specs.Grouped.{groups_of}
use Rattle.fold.specs.Layer.{folded_by}
use Rattle.fold.proofs.Dividing.{divides_same}
use Rattle.format.specs.Sheets.{sheet_of}
use Rattle.arrangement.specs.Arrangements.{at, Distinct, ordered, arranged, position}
use Rattle.arrangement.specs.Enumeration.{arrangement_count}
use Rattle.arrangement.specs.EndSheets.{least_sheet, sheet_along}
use Rattle.arrangement.proofs.Positions.{position_lands, standing_position, standing_lands, position_standing}
use Rattle.arrangement.proofs.Ordered.{ordered_same}
use Rattle.arrangement.proofs.Orders.{least_from_rows}
use Rattle.arrangement.proofs.Canonical.{least_is}
use Rattle.arrangement.proofs.Counting.{count_by_places}
use Rattle.search.specs.declared.ranking.Ranking.{Ranking}
use Rattle.search.specs.Ranked.{Ranked}
use Rattle.normal.specs.Counts.{choices, most_arrangements}

-- a net folded by its own groups at rest is its folded net
pub own_folded : (m : Model) (g : Grouping) → Divides m.places m.transitions (final m) g → folded_by m g ≡ folded m
own_folded m g d =
    given (divides_same m (final m) g (final_equivalences m) d) λ s.
    cond-true _ _ _ (and_from _ _ (eq-eqb _ _ (sym d.on_places.members)) (eq-eqb _ _ (sym d.on_transitions.members)))
    ∙ fold_same m (groups_of g) (final m) (equivalences_same m (final m) (groups_of g) (same_back m (groups_of g) (final m) s) (final_equivalences m)) s

-- a count of arrangements, none if it is over the limit
abbrev pub Counted : Option ℕ → ℕ → Type 0
Counted count k = MatchOption count (most_arrangements < k) (λ w. (w ≡ k) × (w ≤ most_arrangements))

-- the running product of choices is the number of arrangements
pub choices_count : (f : Model) (labels : List ℕ) (n : ℕ) → Lawful f → n ≡ f.places → ((p : ℕ) → at labels p ≡ f.place_label p) → product_below n (choices labels) ≡ arrangement_count f
choices_count f labels n w e h =
    ap (λ (k : ℕ). product_below k (choices labels)) e
    ∙ product_same f.places _ _ (λ p l. ap suc (count_same p _ _ (λ q k. ap₂ eqb (h q) (h p))))
    ∙ sym (count_by_places f w)

module _ (f : Model) (w : Lawful f) (d : Distinct f) (r : Ranking) (ranked : Ranked f r) where
  -- the net in the order of its ranking is the net of the arrangement
  ranked_arranged : ordered f (at r.places) (at r.transitions) ≡ arranged f (at r.places)
  ranked_arranged = ordered_same f f _ _ _ _ refl refl (λ i l. refl) (λ j l. ap f.transition_label (ranked.stands j l))
      (λ j i l k. ap (λ (t : ℕ). f.cause t (at r.places i)) (ranked.stands j l)) (λ j i l k. ap (λ (t : ℕ). f.effect t (at r.places i)) (ranked.stands j l))

  -- its sheet is the least
  pub ranked_least : sheet_along f (at r.places) ≡ least_sheet f
  ranked_least = sym (least_is f _ w d (least_from_rows f (at r.places) w d ranked.arranges ranked.least))

  pub ranked_sheet : sheet_of (ordered f (at r.places) (at r.transitions)) ≡ least_sheet f
  ranked_sheet = ap sheet_of ranked_arranged ∙ ranked_least

  -- no transition stands at two positions, and each stands at its own
  transitions_inject : Injects (at r.transitions) f.transitions f.transitions
  transitions_inject = record {
    lands = λ j l. subst (λ x. x < f.transitions) (sym (ranked.stands j l)) (standing_lands f _ d ranked.arranges j l);
    apart = λ i k l h e.
        sym (position_standing f _ d ranked.arranges i l)
        ∙ ap (position f (at r.places)) (sym (ranked.stands i l) ∙ e ∙ ranked.stands k h)
        ∙ position_standing f _ d ranked.arranges k h;
  }

  pub ranked_position : (t : ℕ) → t < f.transitions → inverse (at r.transitions) f.transitions t ≡ position f (at r.places) t
  ranked_position t l =
      given (position_lands f (at r.places) t l) λ k.
      ap (inverse (at r.transitions) f.transitions) (sym (ranked.stands _ k ∙ standing_position f _ d ranked.arranges t l))
      ∙ inverse_left (at r.transitions) f.transitions transitions_inject _ k
