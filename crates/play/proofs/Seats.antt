-- Sums over places by their seats.
use Rattle.std.proofs.Common.{◌≡◌, ℕ, ◌<◌, ◌≤◌, Bool, true, false, cond, eqb, sym, refl, ap, ◌∙◌, arith}
use Rattle.std.proofs.lemmas.Bool.{eqb-true, eq-eqb, ne_eqb, cond-true, cond-false}
use Rattle.finite.specs.Below.{sum_below}
use Rattle.finite.proofs.Given.{given}
use Rattle.finite.proofs.Sums.{sum_same, sum_zero, sum_le, sum_one, sum_turned}
use Rattle.net.specs.Model.{Model}
use Rattle.bisimulation.specs.Rounds.{unit, group_count}
use Rattle.bisimulation.proofs.Bags.{counts_zero, counts_unit, find_member}
use Rattle.arrangement.specs.Seats.{Seated, seat_tokens, Sits}

-- none, whatever a test says
cond_none : (b : Bool) → ◌≡◌ {A = ℕ} (cond b 0 0) 0
cond_none true = refl
cond_none false = refl

-- what is summed over places by a test of their seats is summed over the seats that pass it
pub by_seats :
    (s : Seated) (w : ℕ) (bag : ℕ → ℕ) (c : ℕ → Bool) →
    ((p : ℕ) → p < s.net.places → s.place_seat p < w) →
    sum_below s.net.places (λ p. cond (c (s.place_seat p)) (bag p) 0) ≡ sum_below w (λ k. cond (c k) (seat_tokens s bag k) 0)
unfolding group_count
by_seats s w bag c lands =
    sum_same n _ (λ p. sum_below w (λ k. cond (c k) (cond (eqb (s.place_seat p) k) (bag p) 0) 0)) (λ p l. sym (one p l))
    ∙ sum_turned n w (λ p k. cond (c k) (cond (eqb (s.place_seat p) k) (bag p) 0) 0)
    ∙ sum_same w _ _ (λ k l. out (c k) k)
  where
    n : ℕ
    n = s.net.places

    one : (p : ℕ) → p < n → sum_below w (λ k. cond (c k) (cond (eqb (s.place_seat p) k) (bag p) 0) 0) ≡ cond (c (s.place_seat p)) (bag p) 0
    one p l =
        sum_one w (λ k. cond (c k) (cond (eqb (s.place_seat p) k) (bag p) 0) 0) (s.place_seat p) (lands p l)
        (λ k _ ne. ap (λ (x : ℕ). cond (c k) x 0) (cond-false _ _ _ (ne_eqb (s.place_seat p) k (λ e. ne (sym e)))) ∙ cond_none (c k))
        ∙ ap (λ (x : ℕ). cond (c (s.place_seat p)) x 0) (cond-true _ _ _ (eq-eqb (s.place_seat p) _ refl))

    out : (b : Bool) (k : ℕ) → sum_below n (λ p. cond b (cond (eqb (s.place_seat p) k) (bag p) 0) 0) ≡ cond b (sum_below n (λ p. cond (eqb (s.place_seat p) k) (bag p) 0)) 0
    out true k = refl
    out false k = sum_zero n _ (λ _ _. refl)

-- all tokens of a bag, over the seats
pub total_by_seats : (s : Seated) (w : ℕ) (bag : ℕ → ℕ) → ((p : ℕ) → p < s.net.places → s.place_seat p < w) → sum_below s.net.places bag ≡ sum_below w (seat_tokens s bag)
total_by_seats s w bag lands = by_seats s w bag (λ _. true) lands

-- bags of two nets on the same seats that agree on each seat have as many tokens in all
pub totals_same : (e : Model) (s u : Seated) → Sits e s → Sits e u → (a b : ℕ → ℕ) → ((k : ℕ) → seat_tokens s a k ≡ seat_tokens u b k) → sum_below s.net.places a ≡ sum_below u.net.places b
totals_same e s u x y a b h =
    total_by_seats s e.places a x.place_lands ∙ sum_same e.places _ _ (λ k _. h k) ∙ sym (total_by_seats u e.places b y.place_lands)

-- no tokens lie beyond the seats
pub beyond_seats : (e : Model) (s : Seated) → Sits e s → (bag : ℕ → ℕ) (k : ℕ) → e.places ≤ k → seat_tokens s bag k ≡ 0
unfolding group_count
beyond_seats e s sits bag k l =
    sum_zero s.net.places _ (λ p j. cond-false _ _ _ (ne_eqb (s.place_seat p) k (λ z. let lands = sits.place_lands p j in omega arith)))

-- an empty bag has no tokens on a seat
pub empty_seat : (s : Seated) (bag : ℕ → ℕ) (k : ℕ) → ((p : ℕ) → p < s.net.places → bag p ≡ 0) → seat_tokens s bag k ≡ 0
empty_seat s bag k h = counts_zero s.net.places (λ p k. eqb (s.place_seat p) k) bag k h

-- one place has one token, on its seat
pub unit_seat : (s : Seated) (i k : ℕ) → i < s.net.places → seat_tokens s (unit i) k ≡ cond (eqb (s.place_seat i) k) 1 0
unit_seat s i k l = counts_unit s.net.places (λ p k. eqb (s.place_seat p) k) i k l

-- a test passes the larger number on as the larger
cond_le : (b : Bool) (x y : ℕ) → x ≤ y → cond b x 0 ≤ cond b y 0
cond_le true x y h = h
cond_le false x y h = omega arith

-- a bag within another has at most its tokens on each seat
pub seat_le : (s : Seated) (a b : ℕ → ℕ) → ((p : ℕ) → p < s.net.places → a p ≤ b p) → (k : ℕ) → seat_tokens s a k ≤ seat_tokens s b k
unfolding group_count
seat_le s a b h k = sum_le s.net.places _ _ (λ p l. cond_le (eqb (s.place_seat p) k) (a p) (b p) (h p l))

-- where a seat has a token, one of its places has one
pub find_token : (s : Seated) (bag : ℕ → ℕ) (k : ℕ) → 0 < seat_tokens s bag k → (p : ℕ) × (p < s.net.places) × (s.place_seat p ≡ k) × (0 < bag p)
find_token s bag k h =
    given (find_member s.net.places (λ p k. eqb (s.place_seat p) k) (λ _. 0) bag k (omega (arith, empty_seat s (λ _. 0) k (λ _ _. refl)))) λ r.
    (r.0, r.1, eqb-true _ _ r.2, r.3)
