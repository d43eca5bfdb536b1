-- Folded nets: no two transitions of one agree, and those of alike nets differ only by numbers.
use Rattle.std.proofs.Common.{◌≡◌, ℕ, zero, suc, ◌<◌, ◌≤◌, Bool, true, ◌⊎◌, sym, refl, ◌∙◌, inl, inr, arith}
use Rattle.std.proofs.lemmas.Bool.{cases_lt, eq-eqb}
use Rattle.finite.specs.Injections.{Bijects}
use Rattle.finite.proofs.Given.{given}
use Rattle.net.specs.Model.{Model}
use Rattle.bisimulation.specs.Groups.{Equivalence, Equivalences}
use Rattle.bisimulation.specs.Rounds.{rounds, rest, final}
use Rattle.bisimulation.specs.Leaders.{groups, group_of, leader}
use Rattle.bisimulation.specs.Folding.{folded}
use Rattle.bisimulation.specs.Bisimulation.{Alike, Holds}
use Rattle.bisimulation.specs.Correspondence.{Correspondence}
use Rattle.bisimulation.proofs.Views.{SameCounts, says_transition}
use Rattle.bisimulation.proofs.Equivalences.{final_equivalences}
use Rattle.bisimulation.proofs.Leaders.{group_lands, group_same, group_leader, leader_lands, leader_same}
use Rattle.bisimulation.proofs.Matchings.{matching_counts}
use Rattle.bisimulation.proofs.Pairings.{group_counts_match}
use Rattle.bisimulation.proofs.Agreement.{rounds_agree}
use Rattle.bisimulation.proofs.Largest.{final_congruence}
use Rattle.bisimulation.proofs.Folded.{label_is, weight_is}
use Rattle.bisimulation.proofs.Alike.{in_group, folded_bisimulation, folded_cause, folded_effect}
use Rattle.bisimulation.proofs.Correspond.{alike_corresponding}
use Rattle.arrangement.specs.Arrangements.{Distinct}
use Rattle.arrangement.specs.Seats.{place_group, transition_group}
use Rattle.arrangement.proofs.Isomorphic.{Isomorphic}

-- bags with equal counts at rest have equal counts in every round
counts_before : (m : Model) (a b : ℕ → ℕ) → SameCounts m (final m) a b → (k : ℕ) → SameCounts m (rounds m k) a b
counts_before m a b h k g l =
    given (final_equivalences m).on_places λ E.
    given (rounds_agree m m (Holds (final m).same_place) (Holds (final m).same_transition) (final_congruence m).bisimulation k) λ A.
    matching_counts m.places m.places (Holds (final m).same_place) a b (group_counts_match m.places (final m).same_place E a b h) (rounds m k).same_place (rounds m k).same_place g g
    (λ x y i j r. A.on_places x g y g i l j l r (E.self g l))

-- transitions with one label, and with equal counts at rest, are together in every round
together_always :
    (m : Model) (t u : ℕ) →
    m.transition_label t ≡ m.transition_label u →
    SameCounts m (final m) (m.cause t) (m.cause u) →
    SameCounts m (final m) (m.effect t) (m.effect u) →
    (k : ℕ) → (rounds m k).same_transition t u ≡ true
unfolding rounds
together_always m t u e c f zero = eq-eqb _ _ e
together_always m t u e c f (suc k) =
    says_transition m (rounds m k) t u
    (record { before = together_always m t u e c f k; causes = counts_before m _ _ c k; effects = counts_before m _ _ f k })

-- so they are together at rest
together_final :
    (m : Model) (t u : ℕ) →
    m.transition_label t ≡ m.transition_label u →
    SameCounts m (final m) (m.cause t) (m.cause u) →
    SameCounts m (final m) (m.effect t) (m.effect u) →
    (final m).same_transition t u ≡ true
together_final m t u e c f = unfold final in together_always m t u e c f (rest m)

-- so two transitions of the folded net, that have the label and the counts of their lowest members, differ
pub folded_distinct : (m : Model) → Distinct (folded m)
folded_distinct m =
    record {
      apart =
          λ h i j k e c f.
          given (leader_lands m.transitions T Q h j) λ t.
          given (leader_lands m.transitions T Q i k) λ u.
          sym (group_leader m.transitions T Q h j)
          ∙ group_same m.transitions T Q _ _ t u
          (together_final m _ _ (sym (label_is T m.transitions m.transition_label h j) ∙ e ∙ label_is T m.transitions m.transition_label i k)
          (λ p l.
          given (group_lands m.places (final m).same_place P p l) λ g.
          sym (folded_cause m h _ _ p j t g l (leads h j) (eq-eqb _ _ refl)) ∙ c _ g ∙ folded_cause m i _ _ p k u g l (leads i k) (eq-eqb _ _ refl))
          (λ p l.
          given (group_lands m.places (final m).same_place P p l) λ g.
          sym (folded_effect m h _ _ p j t g l (leads h j) (eq-eqb _ _ refl)) ∙ f _ g ∙ folded_effect m i _ _ p k u g l (leads i k) (eq-eqb _ _ refl)))
          ∙ group_leader m.transitions T Q i k;
    }
  where
    T : ℕ → ℕ → Bool
    T = (final m).same_transition

    Q : Equivalence m.transitions T
    Q = (final_equivalences m).on_transitions

    P : Equivalence m.places (final m).same_place
    P = (final_equivalences m).on_places

    leads : (h : ℕ) → h < groups T m.transitions → Holds (in_group T m.transitions) h (leader T m.transitions h)
    leads h j = eq-eqb _ _ (group_leader m.transitions T Q h j)

-- the label of a group is that of each member
pub group_place_label : (m : Model) (p : ℕ) → p < m.places → (folded m).place_label (place_group m p) ≡ m.place_label p
group_place_label m p l =
    (folded_bisimulation m).place_labels (place_group m p) p (group_lands m.places (final m).same_place (final_equivalences m).on_places p l) l (eq-eqb _ _ refl)

pub group_transition_label : (m : Model) (t : ℕ) → t < m.transitions → (folded m).transition_label (transition_group m t) ≡ m.transition_label t
group_transition_label m t l =
    (folded_bisimulation m).transition_labels (transition_group m t) t (group_lands m.transitions (final m).same_transition (final_equivalences m).on_transitions t l) l (eq-eqb _ _ refl)

-- a choice of related ones
choose :
    (n k : ℕ) (related : ℕ → ℕ → Type 0) →
    ((x : ℕ) → x < n → (y : ℕ) × (y < k) × related x y) →
    (f : ℕ → ℕ) × ((x : ℕ) → x < n → (f x < k) × related x (f x))
choose n k related h = (λ x. pick x (cases_lt x n), λ x l. good x l (cases_lt x n))
  where
    pick : (x : ℕ) → (x < n) ⊎ (n ≤ x) → ℕ
    pick x (inl l) = (h x l).0
    pick x (inr l) = 0

    good : (x : ℕ) → x < n → (c : (x < n) ⊎ (n ≤ x)) → (pick x c < k) × related x (pick x c)
    good x l (inl i) = ((h x i).1, (h x i).2)
    good x l (inr i) = absurd (omega arith)

-- two equivalences agree along a relation
abbrev Agrees : ℕ → ℕ → (ℕ → ℕ → Type 0) → (ℕ → ℕ → Bool) → (ℕ → ℕ → Bool) → Type 0
Agrees n k related old new = (x x' y y' : ℕ) → x < n → x' < n → y < k → y' < k → related x y → related x' y' → old x x' ≡ new y y'

-- f takes each to one that it is related to
abbrev Follows : ℕ → ℕ → (ℕ → ℕ → Type 0) → (ℕ → ℕ) → Type 0
Follows n k related f = (x : ℕ) → x < n → (f x < k) × related x (f x)

-- from a group to a group of the other, and from there back
group_returns :
    (n k : ℕ) (related : ℕ → ℕ → Type 0) (old new : ℕ → ℕ → Bool) →
    Equivalence n old → Equivalence k new → Agrees n k related old new →
    (f b : ℕ → ℕ) → Follows n k related f → Follows k n (λ y x. related x y) b →
    (g : ℕ) → g < groups old n → group_of old n (b (leader new k (group_of new k (f (leader old n g))))) ≡ g
group_returns n k related old new E F A f b forth back g l =
    given (leader_lands n old E g l) λ i.
    given (forth _ i) λ j.
    given (leader_lands k new F _ (group_lands k new F _ j.0)) λ j'.
    given (back _ j') λ i'.
    group_same n old E _ _ i'.0 i (A _ _ _ _ i'.0 i j' j.0 i'.1 j.1 ∙ leader_same k new F _ j.0)
    ∙ group_leader n old E g l

-- so the groups of both are as many, each with its partner
groups_biject :
    (n k : ℕ) (related : ℕ → ℕ → Type 0) (old new : ℕ → ℕ → Bool) →
    Equivalence n old → Equivalence k new → Agrees n k related old new →
    (f b : ℕ → ℕ) → Follows n k related f → Follows k n (λ y x. related x y) b →
    Bijects (λ g. group_of new k (f (leader old n g))) (λ h. group_of old n (b (leader new k h))) (groups old n) (groups new k)
groups_biject n k related old new E F A f b forth back =
    record {
      lands = λ g l. group_lands k new F _ (forth _ (leader_lands n old E g l)).0;
      returns = λ h l. group_lands n old E _ (back _ (leader_lands k new F h l)).0;
      left = group_returns n k related old new E F A f b forth back;
      right = group_returns k n (λ y x. related x y) new old F E (λ x x' y y' l l' j j' r r'. sym (A y y' x x' j j' l l' r r')) b f back forth;
    }

-- groups that correspond are the places and the transitions of folded nets that differ only by numbers
correspondence_isomorphic :
    (m n : Model) (place transition : ℕ → ℕ → Type 0) →
    Correspondence m n place transition (final m) (final n) →
    Isomorphic (folded m) (folded n)
correspondence_isomorphic m n place transition C =
    given (choose m.places n.places place C.place_forth) λ f.
    given (choose n.places m.places (λ y x. place x y) C.place_back) λ b.
    given (choose m.transitions n.transitions transition C.transition_forth) λ k.
    given (choose n.transitions m.transitions (λ y x. transition x y) C.transition_back) λ d.
    record {
      place = λ g. place_group n (f.0 (leader (final m).same_place m.places g));
      place_back = λ g. place_group m (b.0 (leader (final n).same_place n.places g));
      transition = λ h. transition_group n (k.0 (leader (final m).same_transition m.transitions h));
      transition_back = λ h. transition_group m (d.0 (leader (final n).same_transition n.transitions h));
      on_places =
          groups_biject m.places n.places place (final m).same_place (final n).same_place E.on_places F.on_places C.agree.on_places
          f.0 b.0 f.1 b.1;
      on_transitions =
          groups_biject m.transitions n.transitions transition (final m).same_transition (final n).same_transition E.on_transitions F.on_transitions C.agree.on_transitions
          k.0 d.0 k.1 d.1;
      place_labels =
          λ g l.
          given (leader_lands m.places (final m).same_place E.on_places g l) λ p.
          given (f.1 _ p) λ q.
          group_place_label n _ q.0 ∙ sym (C.place_labels _ _ p q.0 q.1) ∙ sym (label_is (final m).same_place m.places m.place_label g l);
      transition_labels =
          λ h l.
          given (leader_lands m.transitions (final m).same_transition E.on_transitions h l) λ t.
          given (k.1 _ t) λ u.
          group_transition_label n _ u.0
          ∙ sym (C.transition_labels _ _ t u.0 u.1)
          ∙ sym (label_is (final m).same_transition m.transitions m.transition_label h l);
      causes =
          λ h g i j.
          given (leader_lands m.transitions (final m).same_transition E.on_transitions h i) λ t.
          given (leader_lands m.places (final m).same_place E.on_places g j) λ p.
          given (k.1 _ t) λ u.
          given (f.1 _ p) λ q.
          folded_cause n _ _ _ _ (group_lands n.transitions (final n).same_transition F.on_transitions _ u.0) u.0 (group_lands n.places (final n).same_place F.on_places _ q.0) q.0 (eq-eqb _ _ refl) (eq-eqb _ _ refl)
          ∙ sym (C.causes _ _ _ _ t u.0 p q.0 u.1 q.1)
          ∙ sym (weight_is m (final m) m.cause h g i j);
      effects =
          λ h g i j.
          given (leader_lands m.transitions (final m).same_transition E.on_transitions h i) λ t.
          given (leader_lands m.places (final m).same_place E.on_places g j) λ p.
          given (k.1 _ t) λ u.
          given (f.1 _ p) λ q.
          folded_effect n _ _ _ _ (group_lands n.transitions (final n).same_transition F.on_transitions _ u.0) u.0 (group_lands n.places (final n).same_place F.on_places _ q.0) q.0 (eq-eqb _ _ refl) (eq-eqb _ _ refl)
          ∙ sym (C.effects _ _ _ _ t u.0 p q.0 u.1 q.1)
          ∙ sym (weight_is m (final m) m.effect h g i j);
    }
  where
    E : Equivalences m (final m)
    E = final_equivalences m

    F : Equivalences n (final n)
    F = final_equivalences n

-- alike nets have folded nets that differ only by numbers
pub folded_isomorphic : (m n : Model) → Alike m n → Isomorphic (folded m) (folded n)
folded_isomorphic m n a =
    given (alike_corresponding m n a) λ c.
    correspondence_isomorphic m n (Holds c.0) (Holds c.1.0) c.1.1
