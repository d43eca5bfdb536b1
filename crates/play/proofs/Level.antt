-- Even sides show the same: as many tokens for each place label, and the same transition labels can fire.
use Rattle.std.proofs.Common.{◌≡◌, ℕ, true, cond, ◌&&◌, eqb, List, Ok, sym, ap, ◌∙◌}
use Rattle.std.proofs.lemmas.Bool.{and_parts, and_from, eqb-true, eq-eqb}
use Rattle.finite.specs.Below.{sum_below}
use Rattle.finite.proofs.Given.{given}
use Rattle.finite.proofs.Sums.{sum_same}
use Rattle.finite.proofs.Tests.{any_at, any_from, same_test}
use Rattle.net.specs.Model.{Model}
use Rattle.arrangement.specs.Arrangements.{at}
use Rattle.arrangement.specs.Seats.{Seated, seat_tokens, Sits}
use Rattle.play.specs.declared.kinds.Sort.TheVariants.{Fire}
use Rattle.play.specs.Moves.{covers}
use Rattle.play.specs.States.{Sides, Board, opened}
use Rattle.play.specs.Shows.{label_tokens, can_fire}
use Rattle.play.specs.Fairness.{Level}
use Rattle.play.specs.Invariant.{Even}
use Rattle.play.proofs.Seats.{by_seats}
use Rattle.play.proofs.Answering.{answering}

-- the tokens on places with a label, over the seats with that label
label_by_seats : (e : Model) (s : Seated) → Sits e s → (m : List ℕ) (label : ℕ) →
    label_tokens s.net m label ≡ sum_below e.places (λ k. cond (eqb (e.place_label k) label) (seat_tokens s (at m) k) 0)
unfolding label_tokens
label_by_seats e s x m label =
    sum_same s.net.places _ _ (λ p l. ap (λ (z : ℕ). cond (eqb z label) (at m p) 0) (x.place_labels p l))
    ∙ by_seats s e.places (at m) (λ k. eqb (e.place_label k) label) x.place_lands

-- sides with as many tokens on each seat have as many for each place label
tokens_level : (e : Model) (s u : Seated) → Sits e s → Sits e u → (m n : List ℕ) → ((k : ℕ) → seat_tokens s (at m) k ≡ seat_tokens u (at n) k) →
    (label : ℕ) → label_tokens s.net m label ≡ label_tokens u.net n label
tokens_level e s u x y m n h label =
    label_by_seats e s x m label
    ∙ sum_same e.places _ _ (λ k _. ap (λ (z : ℕ). cond (eqb (e.place_label k) label) z 0) (h k))
    ∙ sym (label_by_seats e u y n label)

-- where a transition with a label can fire on one of them, one can on the other
fires_too : (e : Model) (s u : Seated) → Sits e s → Sits e u → (m n : List ℕ) → ((k : ℕ) → seat_tokens s (at m) k ≡ seat_tokens u (at n) k) →
    (label : ℕ) → can_fire s.net m label ≡ true → can_fire u.net n label ≡ true
unfolding can_fire
fires_too e s u x y m n h label c =
    given (any_at s.net.transitions _ c) λ t.
    given (and_parts _ _ t.2) λ f.
    given (answering e s u x y m n h Fire t.0 t.1 f.1) λ r.
    given (y.transition_labels r.0 r.1 ∙ ap e.transition_label r.2 ∙ sym (x.transition_labels t.0 t.1) ∙ eqb-true _ _ f.0) λ same.
    any_from u.net.transitions (λ j. eqb (u.net.transition_label j) label && covers u.net n Fire j) r.0 r.1 (and_from _ _ (eq-eqb _ _ same) r.3)

-- even sides show the same
pub even_level : (e : Model) (sides : Sides) → Sits e sides.left → Sits e sides.right → (b : Board) →
    Even sides.left sides.right b.left b.right → Level (opened sides b)
even_level e sides x y b h =
    record {
      tokens = λ label. ap Ok (tokens_level e sides.left sides.right x y b.left b.right h.tokens label);
      fires = λ label. ap Ok (same_test _ _
          (fires_too e sides.left sides.right x y b.left b.right h.tokens label)
          (fires_too e sides.right sides.left y x b.right b.left (λ k. sym (h.tokens k)) label));
    }
