-- A seated net sits on the net of its end sheet, and a net has seats along an arrangement that reaches it.
use Rattle.std.proofs.Common.{◌≡◌, ℕ, ◌<◌, ◌≤◌, Bool, true, eqb, sym, refl, ap, ◌∙◌, subst, ap₂, arith}
use Rattle.std.proofs.lemmas.Bool.{eqb-true, eq-eqb}
use Rattle.finite.specs.Injections.{Injects, inverse}
use Rattle.finite.proofs.Given.{given}
use Rattle.finite.proofs.Tests.{same_test}
use Rattle.finite.proofs.Injections.{inverse_lands, inverse_right}
use Rattle.net.specs.Model.{Model, Lawful}
use Rattle.bisimulation.specs.Groups.{Equivalence}
use Rattle.bisimulation.specs.Rounds.{group_count, final}
use Rattle.bisimulation.specs.Leaders.{leader}
use Rattle.bisimulation.specs.Folding.{folded}
use Rattle.bisimulation.proofs.Bags.{counts_in}
use Rattle.bisimulation.proofs.Equivalences.{final_equivalences}
use Rattle.bisimulation.proofs.Leaders.{group_lands, group_same, group_says, group_leader, leader_lands}
use Rattle.bisimulation.proofs.Exchange.{sub_bag, iterated_exchange}
use Rattle.bisimulation.proofs.Rest.{final_stable}
use Rattle.bisimulation.proofs.Folded.{folded_lawful_lem}
use Rattle.bisimulation.proofs.Alike.{folded_cause, folded_effect}
use Rattle.format.specs.Sheets.{net_of}
use Rattle.format.proofs.Writing.{net_again}
use Rattle.arrangement.specs.Arrangements.{Arrangement, position, standing, reordered, arranged}
use Rattle.arrangement.specs.EndSheets.{sheet_along, end_sheet}
use Rattle.arrangement.specs.Seats.{Seated, Seating, Sits, Enabled, seat_tokens, place_group, transition_group}
use Rattle.arrangement.proofs.Ordered.{inside, inside_both}
use Rattle.arrangement.proofs.Positions.{position_lands, position_onto, standing_position}
use Rattle.arrangement.proofs.Lawfulness.{arranged_lawful}
use Rattle.arrangement.proofs.Folds.{folded_distinct, group_place_label, group_transition_label}

-- where a marking has in each group the tokens of the cause of t, some transition together with t is enabled
group_enabled :
    (m : Model) (marking : ℕ → ℕ) (t : ℕ) →
    t < m.transitions →
    ((p : ℕ) → p < m.places → group_count m.places (final m).same_place (m.cause t) p ≤ group_count m.places (final m).same_place marking p) →
    (v : ℕ) × (v < m.transitions) × ((final m).same_transition t v ≡ true) × Enabled m marking v
group_enabled m marking t l h =
    given (final_equivalences m) λ E.
    given (sub_bag m.places (final m).same_place E.on_places marking (m.cause t) h) λ b.
    given (iterated_exchange m (final m) E (final_stable m) b.0 t l (λ p i. sym (b.2 p i))) λ v.
    (v.0, v.1, v.2, λ p i. omega (arith, v.3 p i, b.1 p i))

module _ (s : Seated) (z : Seating s) where
  -- the net, and the arrangement along which its seats go
  abbrev m : Model
  m = s.net

  abbrev a : ℕ → ℕ
  a = z.arrangement

  -- which places, and which transitions, are together at rest
  abbrev same : ℕ → ℕ → Bool
  same = (final m).same_place

  abbrev together : ℕ → ℕ → Bool
  together = (final m).same_transition

  -- both are equivalences
  E : Equivalence m.places same
  E = (final_equivalences m).on_places

  F : Equivalence m.transitions together
  F = (final_equivalences m).on_transitions

  -- the arrangement has each group of places once
  permutes : Injects a (folded m).places (folded m).places
  permutes = z.arranges.permutes

  -- each seat is that of the lowest place of a group, and of the lowest transition of one
  place_onto_lem : (k : ℕ) → k < (folded m).places → (p : ℕ) × (p < m.places) × (s.place_seat p ≡ k)
  place_onto_lem k l =
      given (permutes.lands k l) λ g.
      given (leader_lands m.places same E (a k) g) λ i.
      (leader same m.places (a k), i, permutes.apart _ k (z.place_lands _ i) l (z.places _ i ∙ group_leader m.places same E (a k) g))

  transition_onto_lem : (j : ℕ) → j < (folded m).transitions → (t : ℕ) × (t < m.transitions) × (s.transition_seat t ≡ j)
  transition_onto_lem j l =
      given (position_onto (folded m) a (folded_distinct m) z.arranges j l) λ h.
      given (leader_lands m.transitions together F h.0 h.1) λ i.
      (leader together m.transitions h.0, i, z.transitions _ i ∙ ap (position (folded m) a) (group_leader m.transitions together F h.0 h.1) ∙ h.2)

  -- the seat of a transition is a transition of the folded net
  transition_lands_lem : (t : ℕ) → t < m.transitions → s.transition_seat t < (folded m).transitions
  transition_lands_lem t l =
      subst (λ j. j < (folded m).transitions) (sym (z.transitions t l))
      (position_lands (folded m) a (transition_group m t) (group_lands m.transitions together F t l))

  -- at the seat of a transition stands its group
  stands_at : (t : ℕ) → t < m.transitions → standing (folded m) a (s.transition_seat t) ≡ transition_group m t
  stands_at t l =
      ap (standing (folded m) a) (z.transitions t l)
      ∙ standing_position (folded m) a (folded_distinct m) z.arranges (transition_group m t) (group_lands m.transitions together F t l)

  -- places have one seat exactly when they are together
  seat_test : (p q : ℕ) → p < m.places → q < m.places → eqb (s.place_seat p) (s.place_seat q) ≡ same p q
  seat_test p q i j =
      same_test _ _
      (λ h. group_says m.places same E p q i j (sym (z.places p i) ∙ ap a (eqb-true _ _ h) ∙ z.places q j))
      (λ h. eq-eqb _ _ (permutes.apart _ _ (z.place_lands p i) (z.place_lands q j) (z.places p i ∙ group_same m.places same E p q i j h ∙ sym (z.places q j))))

  -- so the tokens on a seat are those of a group
  tokens_at : (bag : ℕ → ℕ) (p : ℕ) → p < m.places → seat_tokens s bag (s.place_seat p) ≡ group_count m.places same bag p
  tokens_at bag p l = counts_in m.places (λ q k. eqb (s.place_seat q) k) same bag (s.place_seat p) p (λ q i. seat_test q p i l)

  -- the weights of a transition, and those of the arranged net, between two seats
  weight_at_lem :
      (weight new : ℕ → ℕ → ℕ) (t p : ℕ) → t < m.transitions → p < m.places →
      new (transition_group m t) (place_group m p) ≡ group_count m.places same (weight t) p →
      seat_tokens s (weight t) (s.place_seat p) ≡ reordered (folded m) a (standing (folded m) a) new (s.transition_seat t) (s.place_seat p)
  weight_at_lem weight new t p i j e =
      tokens_at (weight t) p j
      ∙ sym e
      ∙ sym (ap₂ new (stands_at t i) (z.places p j))
      ∙ sym (inside_both _ _ _ _ _ (transition_lands_lem t i) (z.place_lands p j))

  -- so it is with causes and with effects
  cause_at : (t p : ℕ) → t < m.transitions → p < m.places → seat_tokens s (m.cause t) (s.place_seat p) ≡ (arranged (folded m) a).cause (s.transition_seat t) (s.place_seat p)
  cause_at t p i j =
      weight_at_lem m.cause (folded m).cause t p i j
      (folded_cause m _ t _ p (group_lands m.transitions together F t i) i (group_lands m.places same E p j) j (eq-eqb _ _ refl) (eq-eqb _ _ refl))

  effect_at : (t p : ℕ) → t < m.transitions → p < m.places → seat_tokens s (m.effect t) (s.place_seat p) ≡ (arranged (folded m) a).effect (s.transition_seat t) (s.place_seat p)
  effect_at t p i j =
      weight_at_lem m.effect (folded m).effect t p i j
      (folded_effect m _ t _ p (group_lands m.transitions together F t i) i (group_lands m.places same E p j) j (eq-eqb _ _ refl) (eq-eqb _ _ refl))

  -- the net sits on its folded net in the order of the arrangement
  pub sits_arranged : Sits (arranged (folded m) a) s
  sits_arranged =
      record {
        place_lands = z.place_lands;
        place_onto = place_onto_lem;
        place_labels =
            λ p l.
            sym (inside _ _ _ (z.place_lands p l) ∙ ap (folded m).place_label (z.places p l) ∙ group_place_label m p l);
        transition_lands = transition_lands_lem;
        transition_onto = transition_onto_lem;
        transition_labels =
            λ t l.
            sym (inside _ _ _ (transition_lands_lem t l) ∙ ap (folded m).transition_label (stands_at t l) ∙ group_transition_label m t l);
        causes =
            λ t k i l.
            given (place_onto_lem k l) λ p.
            subst (λ k. seat_tokens s (m.cause t) k ≡ (arranged (folded m) a).cause (s.transition_seat t) k) p.2 (cause_at t p.0 i p.1);
        effects =
            λ t k i l.
            given (place_onto_lem k l) λ p.
            subst (λ k. seat_tokens s (m.effect t) k ≡ (arranged (folded m) a).effect (s.transition_seat t) k) p.2 (effect_at t p.0 i p.1);
        enables =
            λ marking j l h.
            given (transition_onto_lem j l) λ t.
            given (group_enabled m marking t.0 t.1 (λ p i. omega (
              arith,
              h (s.place_seat p) (z.place_lands p i),
              ap (λ (j : ℕ). (arranged (folded m) a).cause j (s.place_seat p)) t.2,
              cause_at t.0 p t.1 i,
              tokens_at (m.cause t.0) p i,
              tokens_at marking p i,
            ))) λ v. (
              v.0,
              v.1,
              z.transitions v.0 v.1
                  ∙ ap (position (folded m) a) (sym (group_same m.transitions together F t.0 v.0 t.1 v.1 v.2))
                  ∙ sym (z.transitions t.0 t.1)
                  ∙ t.2,
              v.3,
            );
      }

-- a seated net sits on the net of its end sheet: that of any arrangement that reaches it
pub seated : (s : Seated) → Lawful s.net → Seating s → Sits (net_of (end_sheet s.net)) s
seated s w z =
    given (arranged_lawful (folded s.net) z.arrangement (folded_lawful_lem s.net w) (folded_distinct s.net) z.arranges) λ v.
    subst (λ x. Sits x s) (sym (net_again (arranged (folded s.net) z.arrangement) v) ∙ ap net_of z.reached) (sits_arranged s z)

-- the net with its seats along an arrangement: where the group of a place stands, and the position of the group of a transition
abbrev pub seated_along : Model → (ℕ → ℕ) → Seated
seated_along m a = record {
  net = m;
  place_seat = λ p. inverse a (folded m).places (place_group m p);
  transition_seat = λ t. position (folded m) a (transition_group m t);
}

-- these seats follow the arrangement
pub seating_along : (m : Model) (a : ℕ → ℕ) → Arrangement (folded m) a → sheet_along (folded m) a ≡ end_sheet m → Seating (seated_along m a)
seating_along m a o e =
    record {
      arrangement = a;
      arranges = o;
      reached = e;
      place_lands = λ p l. inverse_lands a (folded m).places o.permutes (place_group m p) (lands p l);
      places = λ p l. inverse_right a (folded m).places o.permutes (place_group m p) (lands p l);
      transitions = λ t _. refl;
    }
  where
    lands : (p : ℕ) → p < m.places → place_group m p < (folded m).places
    lands = group_lands m.places (final m).same_place (final_equivalences m).on_places
