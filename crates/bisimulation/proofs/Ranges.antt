-- Groupings that agree in range have the same next round, the same stability and the same groups.
use Rattle.std.proofs.Common.{◌≡◌, ℕ, ◌<◌, Bool, true, ◌&&◌, eqb, sym, ap, ◌∙◌, ap₂, arith}
use Rattle.finite.proofs.Given.{given}
use Rattle.finite.proofs.Tests.{same_test}
use Rattle.finite.proofs.Counts.{count_same}
use Rattle.finite.proofs.Searches.{first_same}
use Rattle.net.specs.Model.{Model}
use Rattle.bisimulation.specs.Groups.{Groups, Equivalence, Equivalences}
use Rattle.bisimulation.specs.Rounds.{refine}
use Rattle.bisimulation.specs.Leaders.{lowest, leads, groups, leader}
use Rattle.bisimulation.proofs.Bags.{counts_in}
use Rattle.bisimulation.proofs.Views.{Exchanges, SameCounts, place_says, says_place, transition_says, says_transition}

-- the groups agree in range
pub record SameGroups (m : Model) (r s : Groups) : Type 0 where
  pub on_places : (p q : ℕ) → p < m.places → q < m.places → r.same_place p q ≡ s.same_place p q
  pub on_transitions : (t u : ℕ) → t < m.transitions → u < m.transitions → r.same_transition t u ≡ s.same_transition t u

pub same_back : (m : Model) (r s : Groups) → SameGroups m r s → SameGroups m s r
same_back m r s h = record { on_places = λ p q l k. sym (h.on_places p q l k); on_transitions = λ p q l k. sym (h.on_transitions p q l k) }

counts_kept : (m : Model) (r s : Groups) → SameGroups m r s → (a b : ℕ → ℕ) → SameCounts m r a b → SameCounts m s a b
counts_kept m r s h a b c g l =
    counts_in m.places s.same_place r.same_place a g g (λ k j. sym (h.on_places k g j l)) ∙ c g l ∙ counts_in m.places r.same_place s.same_place b g g (λ k j. h.on_places k g j l)

exchanges_kept : (m : Model) (r s : Groups) → SameGroups m r s → (p q : ℕ) → Exchanges m r p q → Exchanges m s p q
exchanges_kept m r s h p q x t l w = given (x t l w) λ f. (f.0, f.1, sym (h.on_transitions t f.0 l f.1) ∙ f.2, f.3)

place_kept : (m : Model) (r s : Groups) → SameGroups m r s → (p q : ℕ) → p < m.places → q < m.places → (refine m r).same_place p q ≡ true → (refine m s).same_place p q ≡ true
place_kept m r s h p q l k z =
    given (place_says m r p q z) λ e.
    says_place m s p q (record { before = sym (h.on_places p q l k) ∙ e.before; there = exchanges_kept m r s h p q e.there; return = exchanges_kept m r s h q p e.return })

transition_kept : (m : Model) (r s : Groups) → SameGroups m r s → (t u : ℕ) → t < m.transitions → u < m.transitions → (refine m r).same_transition t u ≡ true → (refine m s).same_transition t u ≡ true
transition_kept m r s h t u l k z =
    given (transition_says m r t u z) λ e.
    says_transition m s t u (record { before = sym (h.on_transitions t u l k) ∙ e.before; causes = counts_kept m r s h _ _ e.causes; effects = counts_kept m r s h _ _ e.effects })

-- the next round keeps the agreement
pub refine_same : (m : Model) (r s : Groups) → SameGroups m r s → SameGroups m (refine m r) (refine m s)
refine_same m r s h =
    given (same_back m r s h) λ b.
    record {
      on_places = λ p q l k. same_test _ _ (place_kept m r s h p q l k) (place_kept m s r b p q l k);
      on_transitions = λ t u l k. same_test _ _ (transition_kept m r s h t u l k) (transition_kept m s r b t u l k);
    }

equivalence_same : (n : ℕ) (old new : ℕ → ℕ → Bool) → ((a b : ℕ) → a < n → b < n → old a b ≡ new a b) → Equivalence n old → Equivalence n new
equivalence_same n old new h E =
    record {
      self = λ a i. sym (h a a i i) ∙ E.self a i;
      turn = λ a b i j e. sym (h b a j i) ∙ E.turn a b i j (h a b i j ∙ e);
      join = λ a b c i j k e f. sym (h a c i k) ∙ E.join a b c i j k (h a b i j ∙ e) (h b c j k ∙ f);
    }

pub equivalences_same : (m : Model) (r s : Groups) → SameGroups m r s → Equivalences m r → Equivalences m s
equivalences_same m r s h E =
    record {
      on_places = equivalence_same m.places r.same_place s.same_place h.on_places E.on_places;
      on_transitions = equivalence_same m.transitions r.same_transition s.same_transition h.on_transitions E.on_transitions;
    }

-- tests that agree below n have the same leaders and groups
module _ (n : ℕ) (old new : ℕ → ℕ → Bool) (h : (p q : ℕ) → p < n → q < n → old p q ≡ new p q) where
  pub lowest_like : (p : ℕ) → p < n → lowest old n p ≡ lowest new n p
  unfolding lowest
  lowest_like p l = first_same n _ _ (λ q k. h q p k l)

  pub leads_like : (p : ℕ) → p < n → leads old n p ≡ leads new n p
  unfolding leads
  leads_like p l = ap (λ (x : ℕ). eqb x p) (lowest_like p l)

  pub groups_like : groups old n ≡ groups new n
  unfolding groups
  groups_like = count_same n _ _ leads_like

  pub leader_like : (g : ℕ) → leader old n g ≡ leader new n g
  unfolding leader
  leader_like g = first_same n _ _ (λ p l. ap₂ (λ x y. x && y) (leads_like p l) (ap (λ (x : ℕ). eqb x g) (count_same p _ _ (λ i k. leads_like i (omega arith)))))
