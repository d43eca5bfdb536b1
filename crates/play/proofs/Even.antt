-- Even sides: moves with one seat take and give as much on each seat, and leave the sides even.
use Rattle.std.proofs.Common.{◌≡◌, ℕ, ◌+◌, ◌<◌, ◌≤◌, Bool, true, cond, eqb, List, sym, refl, ap, ◌∙◌, subst, ⊎_elim, arith}
use Rattle.std.proofs.lemmas.Bool.{cases_lt}
use Rattle.finite.proofs.Given.{given}
use Rattle.net.specs.Model.{Model}
use Rattle.bisimulation.proofs.Bags.{counts_same, counts_add}
use Rattle.arrangement.specs.Arrangements.{at}
use Rattle.arrangement.specs.Seats.{Seated, seat_tokens, Sits}
use Rattle.play.specs.declared.kinds.Sort.{Sort}
use Rattle.play.specs.declared.kinds.Sort.TheVariants.{Put, Take, Fire}
use Rattle.play.specs.Moves.{most_tokens, numbers, seat_of, takes, gives, covers, moved, undone, total}
use Rattle.play.specs.Invariant.{Even, Ahead}
use Rattle.play.proofs.Markings.{at_moved, moved_long, covers_at, undone_moved}
use Rattle.play.proofs.Seats.{totals_same, beyond_seats, empty_seat, unit_seat}

-- sides that are even are even when they change places
pub even_turned : (s u : Seated) (m n : List ℕ) → Even s u m n → Even u s n m
even_turned s u m n h = record { long = h.other_long; other_long = h.long; room = h.other_room; other_room = h.room; tokens = λ k. sym (h.tokens k) }

-- moves with one seat take as much on each seat
taken_alike : (e : Model) (s u : Seated) → Sits e s → Sits e u → (k : Sort) (i j : ℕ) → i < numbers s.net k → j < numbers u.net k →
    seat_of s k i ≡ seat_of u k j → (q : ℕ) → seat_tokens s (takes s.net k i) q ≡ seat_tokens u (takes u.net k j) q
taken_alike e s u x y Put i j a b z q = empty_seat s (λ _. 0) q (λ _ _. refl) ∙ sym (empty_seat u (λ _. 0) q (λ _ _. refl))
taken_alike e s u x y Take i j a b z q = unit_seat s i q a ∙ ap (λ (r : ℕ). cond (eqb r q) 1 0) z ∙ sym (unit_seat u j q b)
taken_alike e s u x y Fire i j a b z q = ⊎_elim
    (λ l. x.causes i q a l ∙ ap (λ (r : ℕ). e.cause r q) z ∙ sym (y.causes j q b l))
    (λ l. beyond_seats e s x _ q l ∙ sym (beyond_seats e u y _ q l))
    (cases_lt q e.places)

-- and give as much on each seat
given_alike : (e : Model) (s u : Seated) → Sits e s → Sits e u → (k : Sort) (i j : ℕ) → i < numbers s.net k → j < numbers u.net k →
    seat_of s k i ≡ seat_of u k j → (q : ℕ) → seat_tokens s (gives s.net k i) q ≡ seat_tokens u (gives u.net k j) q
given_alike e s u x y Put i j a b z q = unit_seat s i q a ∙ ap (λ (r : ℕ). cond (eqb r q) 1 0) z ∙ sym (unit_seat u j q b)
given_alike e s u x y Take i j a b z q = empty_seat s (λ _. 0) q (λ _ _. refl) ∙ sym (empty_seat u (λ _. 0) q (λ _ _. refl))
given_alike e s u x y Fire i j a b z q = ⊎_elim
    (λ l. x.effects i q a l ∙ ap (λ (r : ℕ). e.effect r q) z ∙ sym (y.effects j q b l))
    (λ l. beyond_seats e s x _ q l ∙ sym (beyond_seats e u y _ q l))
    (cases_lt q e.places)

-- what a move does to the tokens on a seat
pub moved_tokens : (s : Seated) (m : List ℕ) (k : Sort) (i : ℕ) → covers s.net m k i ≡ true → (q : ℕ) →
    seat_tokens s (at (moved s.net m k i)) q + seat_tokens s (takes s.net k i) q ≡ seat_tokens s (at m) q + seat_tokens s (gives s.net k i) q
moved_tokens s m k i c q =
    let a = s.net in
    let same : ℕ → ℕ → Bool = λ p q. eqb (s.place_seat p) q in
    sym (counts_add a.places same (at (moved a m k i)) (takes a k i) q)
    ∙ counts_same a.places same (λ x. at (moved a m k i) x + takes a k i x) (λ x. at m x + gives a k i x) q (λ x l. omega (arith, at_moved a m k i x l, covers_at a m k i c x l))
    ∙ counts_add a.places same (at m) (gives a k i) q

-- even sides that make moves with one seat are even
pub even_moved :
    (e : Model) (s u : Seated) → Sits e s → Sits e u → (m n : List ℕ) → Even s u m n →
    (k : Sort) (i j : ℕ) → i < numbers s.net k → j < numbers u.net k → seat_of s k i ≡ seat_of u k j →
    covers s.net m k i ≡ true → covers u.net n k j ≡ true → total s.net (moved s.net m k i) ≤ most_tokens →
    Even s u (moved s.net m k i) (moved u.net n k j)
even_moved e s u x y m n h k i j a b z c d room =
    given tokens_after λ f.
    record {
      long = moved_long s.net m k i;
      other_long = moved_long u.net n k j;
      room = room;
      other_room = omega (arith, totals_same e s u x y (at (moved s.net m k i)) (at (moved u.net n k j)) f);
      tokens = f;
    }
  where
    tokens_after : (q : ℕ) → seat_tokens s (at (moved s.net m k i)) q ≡ seat_tokens u (at (moved u.net n k j)) q
    tokens_after q = omega (arith, moved_tokens s m k i c q, moved_tokens u n k j d q, taken_alike e s u x y k i j a b z q, given_alike e s u x y k i j a b z q, h.tokens q)

-- a lead that is answered leaves the sides even
pub ahead_answered : (e : Model) (s u : Seated) → Sits e s → Sits e u → (m n : List ℕ) (k : Sort) (i seat j : ℕ) → Ahead s u m n k i seat →
    j < numbers u.net k → seat_of u k j ≡ seat → covers u.net n k j ≡ true → Even s u m (moved u.net n k j)
ahead_answered e s u x y m n k i seat j h l z c =
    subst (λ v. Even s u v (moved u.net n k j)) (sym h.after)
    (even_moved e s u x y h.before n h.even k i j h.there l (sym h.its_seat ∙ sym z) h.covered c
    (subst (λ v. total s.net v ≤ most_tokens) h.after h.room))

-- a lead that is undone leaves the sides as they were, even
pub ahead_undone : (s u : Seated) (m n : List ℕ) (k : Sort) (i seat : ℕ) → Ahead s u m n k i seat → Even s u (undone s.net m k i) n
ahead_undone s u m n k i seat h =
    subst (λ v. Even s u v n) (sym (ap (λ v. undone s.net v k i) h.after ∙ undone_moved s.net h.before k i h.even.long h.covered)) h.even
