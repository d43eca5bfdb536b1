-- Nets that sit on one net are alike, and a net sits on itself.
use Rattle.std.proofs.Common.{◌≡◌, ℕ, ◌<◌, Bool, eqb, sym, refl, ap, ◌∙◌, ap₂, arith}
use Rattle.std.proofs.lemmas.Bool.{eqb-true, eq-eqb}
use Rattle.finite.proofs.Given.{given}
use Rattle.net.specs.Model.{Model}
use Rattle.bisimulation.specs.Groups.{Equivalence}
use Rattle.bisimulation.specs.Bisimulation.{Matching, Bisimulation, Holds, Alike}
use Rattle.bisimulation.proofs.Bags.{counts_in}
use Rattle.bisimulation.proofs.Matchings.{matching_counts}
use Rattle.bisimulation.proofs.Exchange.{within_equal}
use Rattle.bisimulation.proofs.Pairings.{counts_match}
use Rattle.bisimulation.proofs.Alike.{counts_single}
use Rattle.arrangement.specs.Seats.{Seated, seat_tokens, Sits}

-- whether a place, and whether a transition, has the seat of one of the other net
abbrev pub same_place_seat : Seated → Seated → ℕ → ℕ → Bool
same_place_seat s u p q = eqb (s.place_seat p) (u.place_seat q)

abbrev pub same_transition_seat : Seated → Seated → ℕ → ℕ → Bool
same_transition_seat s u t v = eqb (s.transition_seat t) (u.transition_seat v)

-- to have one seat is an equivalence
seats_equivalence : (s : Seated) → Equivalence s.net.places (same_place_seat s s)
seats_equivalence s =
    record {
      self = λ a _. eq-eqb _ _ refl;
      turn = λ a b _ _ h. eq-eqb _ _ (sym (eqb-true _ _ h));
      join = λ a b c _ _ _ h i. eq-eqb _ _ (eqb-true _ _ h ∙ eqb-true _ _ i);
    }

module _ (e : Model) (s u : Seated) (x : Sits e s) (y : Sits e u) where
  -- each place, and each transition, has the seat of one of the other net
  place_forth_lem : (p : ℕ) → p < s.net.places → (q : ℕ) × (q < u.net.places) × Holds (same_place_seat s u) p q
  place_forth_lem p l = given (y.place_onto (s.place_seat p) (x.place_lands p l)) λ q. (q.0, q.1, eq-eqb _ _ (sym q.2))

  place_back_lem : (q : ℕ) → q < u.net.places → (p : ℕ) × (p < s.net.places) × Holds (same_place_seat s u) p q
  place_back_lem q l = given (x.place_onto (u.place_seat q) (y.place_lands q l)) λ p. (p.0, p.1, eq-eqb _ _ p.2)

  -- bags with equally many tokens on each seat match
  tokens_match :
      (a b : ℕ → ℕ) →
      ((k : ℕ) → k < e.places → seat_tokens s a k ≡ seat_tokens u b k) →
      Matching s.net.places u.net.places (Holds (same_place_seat s u)) a b
  tokens_match a b h =
      counts_match s.net.places u.net.places (Holds (same_place_seat s u)) (same_place_seat s s) (same_place_seat u u) (seats_equivalence u)
      (λ p q q' _ _ _ r r'. eq-eqb _ _ (eqb-true _ _ r ∙ eqb-true _ _ r'))
      (λ p p' q q' _ _ _ _ r r'. ap₂ eqb (eqb-true _ _ r) (eqb-true _ _ r'))
      place_forth_lem place_back_lem a b
      (λ p q i j r.
      counts_in s.net.places (same_place_seat s s) (λ z k. eqb (s.place_seat z) k) a p (s.place_seat p) (λ _ _. refl)
      ∙ h (s.place_seat p) (x.place_lands p i)
      ∙ counts_in u.net.places (λ z k. eqb (u.place_seat z) k) (same_place_seat u u) b (s.place_seat p) q (λ z _. ap (eqb (u.place_seat z)) (eqb-true _ _ r)))

  -- where a bag has on each seat the tokens of the cause of t, some transition with the seat of t has this bag as its cause
  partner :
      (t : ℕ) (b : ℕ → ℕ) → t < s.net.transitions → ((k : ℕ) → seat_tokens s (s.net.cause t) k ≡ seat_tokens u b k) →
      (v : ℕ) × (v < u.net.transitions) × ((q : ℕ) → q < u.net.places → u.net.cause v q ≡ b q) × (u.transition_seat v ≡ s.transition_seat t)
  partner t b l h =
      given (y.enables b (s.transition_seat t) (x.transition_lands t l) (λ k i. omega (arith, x.causes t k l i, h k))) λ v. (
        v.0,
        v.1,
        within_equal u.net.places (same_place_seat u u) (seats_equivalence u) (u.net.cause v.0) b
            (λ q i.
            counts_in u.net.places (same_place_seat u u) (λ z k. eqb (u.place_seat z) k) (u.net.cause v.0) q (u.place_seat q) (λ _ _. refl)
            ∙ y.causes v.0 (u.place_seat q) v.1 (y.place_lands q i)
            ∙ ap (λ (j : ℕ). e.cause j (u.place_seat q)) v.2
            ∙ sym (x.causes t (u.place_seat q) l (y.place_lands q i))
            ∙ h (u.place_seat q)
            ∙ counts_in u.net.places (λ z k. eqb (u.place_seat z) k) (same_place_seat u u) b (u.place_seat q) q (λ _ _. refl))
            v.3,
        v.2,
      )

-- bags that match have equally many tokens on each seat
match_tokens :
    (s u : Seated) (a b : ℕ → ℕ) →
    Matching s.net.places u.net.places (Holds (same_place_seat s u)) a b →
    (k : ℕ) → seat_tokens s a k ≡ seat_tokens u b k
match_tokens s u a b w k =
    matching_counts s.net.places u.net.places (Holds (same_place_seat s u)) a b w (λ z k. eqb (s.place_seat z) k) (λ z k. eqb (u.place_seat z) k) k k
    (λ p q _ _ r. ap (λ (z : ℕ). eqb z k) (eqb-true _ _ r))

-- to have one seat is a structural bisimulation
pub sits_bisimulation :
    (e : Model) (s u : Seated) → Sits e s → Sits e u →
    Bisimulation s.net u.net (Holds (same_place_seat s u)) (Holds (same_transition_seat s u))
sits_bisimulation e s u x y =
    record {
      place_forth = place_forth_lem e s u x y;
      place_back = place_back_lem e s u x y;
      transition_forth = λ t l. given (y.transition_onto (s.transition_seat t) (x.transition_lands t l)) λ v. (v.0, v.1, eq-eqb _ _ (sym v.2));
      transition_back = λ v l. given (x.transition_onto (u.transition_seat v) (y.transition_lands v l)) λ t. (t.0, t.1, eq-eqb _ _ t.2);
      place_labels = λ p q i j r. x.place_labels p i ∙ ap e.place_label (eqb-true _ _ r) ∙ sym (y.place_labels q j);
      transition_labels = λ t v i j r. x.transition_labels t i ∙ ap e.transition_label (eqb-true _ _ r) ∙ sym (y.transition_labels v j);
      causes =
          λ t v i j r.
          tokens_match e s u x y _ _ (λ k l. x.causes t k i l ∙ ap (λ (z : ℕ). e.cause z k) (eqb-true _ _ r) ∙ sym (y.causes v k j l));
      effects =
          λ t v i j r.
          tokens_match e s u x y _ _ (λ k l. x.effects t k i l ∙ ap (λ (z : ℕ). e.effect z k) (eqb-true _ _ r) ∙ sym (y.effects v k j l));
      forth = λ t b l w. given (partner e s u x y t b l (match_tokens s u _ b w)) λ v. (v.0, v.1, v.2, eq-eqb _ _ (sym v.3));
      back = λ v a l w. given (partner e u s y x v a l (λ k. sym (match_tokens s u a _ w k))) λ t. (t.0, t.1, t.2, eq-eqb _ _ t.3);
    }

-- so nets that sit on one net are alike
pub sits_alike : (e : Model) (s u : Seated) → Sits e s → Sits e u → Alike s.net u.net
sits_alike e s u x y = (same_place_seat s u, (same_transition_seat s u, sits_bisimulation e s u x y))

-- a net with each place and each transition as its own seat
abbrev pub by_self : Model → Seated
by_self e = record { net = e; place_seat = λ p. p; transition_seat = λ t. t }

-- so seated, a net sits on itself
pub sits_itself : (e : Model) → Sits e (by_self e)
sits_itself e =
    record {
      place_lands = λ p l. l;
      place_onto = λ k l. (k, l, refl);
      place_labels = λ p _. refl;
      transition_lands = λ t l. l;
      transition_onto = λ j l. (j, l, refl);
      transition_labels = λ t _. refl;
      causes = λ t k _ l. counts_single e.places (e.cause t) k l;
      effects = λ t k _ l. counts_single e.places (e.effect t) k l;
      enables = λ marking j l h. (j, l, refl, λ p i. omega (arith, h p i, counts_single e.places marking p i));
    }
