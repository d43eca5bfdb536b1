-- Whatever one of two even sides can move with, the other can move with a number that has the same seat.
use Rattle.std.proofs.Common.{◌≡◌, ℕ, ◌<◌, true, List, refl, ap, ◌∙◌, ⊎_elim, arith}
use Rattle.std.proofs.lemmas.Bool.{eq-eqb, cond-true}
use Rattle.finite.proofs.Given.{given}
use Rattle.net.specs.Model.{Model}
use Rattle.bisimulation.specs.Rounds.{unit}
use Rattle.bisimulation.proofs.Bags.{unit_at}
use Rattle.arrangement.specs.Arrangements.{at}
use Rattle.arrangement.specs.Seats.{Seated, seat_tokens, Sits}
use Rattle.play.specs.declared.kinds.Sort.{Sort}
use Rattle.play.specs.declared.kinds.Sort.TheVariants.{Put, Take, Fire}
use Rattle.play.specs.Moves.{numbers, seat_of, covers}
use Rattle.play.proofs.Markings.{covers_at, covers_from}
use Rattle.play.proofs.Seats.{unit_seat, seat_le, find_token}

-- a number that has the seat, and whose move is covered
abbrev pub Answering : Seated → List ℕ → Sort → ℕ → Type 0
Answering u n k seat = (j : ℕ) × (j < numbers u.net k) × (seat_of u k j ≡ seat) × (covers u.net n k j ≡ true)

-- a token can be taken from a place that has one
take_covered : (m : Model) (marking : List ℕ) (q : ℕ) → 0 < at marking q → covers m marking Take q ≡ true
take_covered m marking q h = covers_from m marking Take q (λ x l. ⊎_elim (λ e. omega (arith, e.1, ap (at marking) e.0)) (λ e. omega (arith, e.1)) (unit_at q x))

-- the number that answers: any place of the seat to put on, one with a token to take from, an enabled transition to fire
pub answering : (e : Model) (s u : Seated) → Sits e s → Sits e u → (m n : List ℕ) → ((q : ℕ) → seat_tokens s (at m) q ≡ seat_tokens u (at n) q) →
    (k : Sort) (i : ℕ) → i < numbers s.net k → covers s.net m k i ≡ true → Answering u n k (seat_of s k i)
answering e s u x y m n h Put i a c =
    let r = y.place_onto (s.place_seat i) (x.place_lands i a) in
    (r.0, r.1, r.2, covers_from u.net n Put r.0 (λ z l. omega arith))
answering e s u x y m n h Take i a c =
    let q = s.place_seat i in
    given (unit_seat s i q a ∙ cond-true _ _ _ (eq-eqb q q refl)) λ one.
    given (seat_le s (unit i) (at m) (covers_at s.net m Take i c) q) λ has.
    given (find_token u (at n) q (omega (arith, h q, has, one))) λ r.
    (r.0, r.1, r.2, take_covered u.net n r.0 r.3)
answering e s u x y m n h Fire i a c =
    given (λ (q : ℕ) (l : q < e.places). omega (arith, x.causes i q a l, h q, seat_le s (s.net.cause i) (at m) (covers_at s.net m Fire i c) q)) λ has.
    given (y.enables (at n) (s.transition_seat i) (x.transition_lands i a) has) λ r.
    (r.0, r.1, r.2, covers_from u.net n Fire r.0 r.3)
