-- A grouping within another has more groups if it parts a pair, and as many if it parts none.
use Rattle.std.proofs.Common.{◌≡◌, ℕ, ◌<◌, Bool, true, false, sym, ◌∙◌, inl, inr, arith}
use Rattle.std.proofs.lemmas.Bool.{cases_Bool, both_ways}
use Rattle.finite.proofs.Given.{given}
use Rattle.finite.proofs.Tests.{same_test}
use Rattle.finite.proofs.Counts.{count_lt}
use Rattle.net.specs.Model.{Model}
use Rattle.bisimulation.specs.Groups.{Groups, Equivalence, Equivalences}
use Rattle.bisimulation.specs.Rounds.{refine, Stable}
use Rattle.bisimulation.specs.Leaders.{lowest, leads, groups}
use Rattle.bisimulation.proofs.Equivalences.{refine_equivalences}
use Rattle.bisimulation.proofs.Leaders.{leads_says, says_leads, says_follows, lowest_found, lowest_same, lowest_leads, lowest_le}
use Rattle.bisimulation.proofs.Ranges.{groups_like}
use Rattle.bisimulation.proofs.Rest.{refine_within}

module _
    (n : ℕ) (old new : ℕ → ℕ → Bool) (E : Equivalence n old) (F : Equivalence n new)
    (inside : (a b : ℕ) → a < n → b < n → new a b ≡ true → old a b ≡ true)
  where
    -- what leads a group goes on leading one
    leads_still : (p : ℕ) → p < n → leads old n p ≡ true → leads new n p ≡ true
    leads_still p l h =
        given (lowest_found n new F p l) λ f.
        given (lowest_same n old E (lowest new n p) p f.lands l (inside (lowest new n p) p f.lands l f.passes)) λ e.
        says_leads n new p (omega (arith, e, leads_says n old p h, lowest_le n old E (lowest new n p) f.lands, lowest_le n new F p l))

    -- one of two leaders that are together in the old leads no group there
    pub groups_grow : (a b : ℕ) → a < n → b < n → old a b ≡ true → new a b ≡ false → groups old n < groups new n
    unfolding groups
    groups_grow a b i j h parted =
        given (lowest_found n new F a i) λ f.
        given (lowest_found n new F b j) λ g.
        given (lowest_same n old E (lowest new n a) a f.lands i (inside _ a f.lands i f.passes)) λ low.
        given (lowest_same n old E (lowest new n b) b g.lands j (inside _ b g.lands j g.passes)) λ low'.
        elim (cases_Bool (leads old n (lowest new n a))) [
          | inr y ↦ count_lt n (leads old n) (leads new n) leads_still (lowest new n a) f.lands y (lowest_leads n new F a i)
          | inl y ↦
              count_lt n (leads old n) (leads new n) leads_still (lowest new n b) g.lands
              (says_follows n old (lowest new n b) (λ e.
              let same : lowest new n a ≡ lowest new n b = sym (leads_says n old _ y) ∙ low ∙ lowest_same n old E a b i j h ∙ sym low' ∙ e in
              both_ways _ parted (F.join a (lowest new n b) b i g.lands j (F.turn _ a g.lands i (rw same at f.passes)) g.passes)))
              (lowest_leads n new F b j)
        ]

    -- with as many groups nothing is parted
    pub groups_even : groups old n ≡ groups new n → (a b : ℕ) → a < n → b < n → old a b ≡ true → new a b ≡ true
    groups_even e a b i j h = elim (cases_Bool (new a b)) [ inl y ↦ y | inr y ↦ absurd (omega (arith, groups_grow a b i j h y)) ]

pub groups_kept :
    (n : ℕ) (old new : ℕ → ℕ → Bool) →
    ((a b : ℕ) → a < n → b < n → new a b ≡ true → old a b ≡ true) →
    ((a b : ℕ) → a < n → b < n → old a b ≡ true → new a b ≡ true) →
    groups old n ≡ groups new n
groups_kept n old new inside kept = groups_like n old new (λ a b i j. same_test _ _ (kept a b i j) (inside a b i j))

-- a grouping is stable exactly if the next has as many groups of places, and of transitions
pub even_stable :
    (m : Model) (r : Groups) →
    Equivalences m r →
    groups r.same_place m.places ≡ groups (refine m r).same_place m.places →
    groups r.same_transition m.transitions ≡ groups (refine m r).same_transition m.transitions →
    Stable m r
even_stable m r E p t =
    given (refine_equivalences m r E) λ F.
    record {
      on_places = groups_even m.places r.same_place (refine m r).same_place E.on_places F.on_places (refine_within m r).on_places p;
      on_transitions = groups_even m.transitions r.same_transition (refine m r).same_transition E.on_transitions F.on_transitions (refine_within m r).on_transitions t;
    }

pub stable_even :
    (m : Model) (r : Groups) →
    Stable m r →
    (groups r.same_place m.places ≡ groups (refine m r).same_place m.places)
    × (groups r.same_transition m.transitions ≡ groups (refine m r).same_transition m.transitions)
stable_even m r S = (
  groups_kept m.places r.same_place (refine m r).same_place (refine_within m r).on_places S.on_places,
  groups_kept m.transitions r.same_transition (refine m r).same_transition (refine_within m r).on_transitions S.on_transitions,
)
