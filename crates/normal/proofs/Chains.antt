-- What chains of iterators count and find, as counts and searches over the numbers below a bound.
use Rattle.std.proofs.Common.{◌≡◌, ℕ, zero, suc, ◌+◌, ◌<◌, ◌≤◌, Bool, Some, None, List, length, take, sym, ap, ◌∙◌, inl, inr, add-one, arith}
use Rattle.std.proofs.Math.Seq.{take-length}
use Rattle.std.specs.List.{count_by, filter, position, position_or_len, range_with_len}
use Rattle.std.proofs.lemmas.Bool.{cases_Bool, cond-true, lt-ltb}
use Rattle.std.proofs.lemmas.List.Quantifiers.{position-Some}
use Rattle.std.proofs.lemmas.List.FromFn.{length-range_with_len, get_or-range_with_len}
use Rattle.std.proofs.lemmas.List.Sums.{count_by_more_yes, count_by_more_no, length-filter, position_or_len_is}
use Rattle.finite.specs.Below.{count_below, first_below}
use Rattle.finite.proofs.Counts.{count_none, count_yes, count_no, count_same}
use Rattle.finite.proofs.Searches.{first_cases, first_is}
use Rattle.arrangement.specs.Arrangements.{at}

-- how many of the first n elements pass
pub count_first : (test : ℕ → Bool) (xs : List ℕ) (n : ℕ) → n ≤ length xs → count_by test (take n xs) ≡ count_below n (λ q. test (at xs q))
count_first test xs zero l = sym (count_none _)
count_first test xs (suc n) l =
    let below = count_first test xs n (omega arith) in
    let e : n + 1 ≡ suc n = add-one n in
    elim (cases_Bool (test (at xs n))) [
      | inl y ↦ rw (← e) (count_by_more_yes test xs n 0 (omega arith) y ∙ ap (λ (k : ℕ). k + 1) below ∙ sym (count_yes n (λ q. test (at xs q)) y))
      | inr y ↦ rw (← e) (count_by_more_no test xs n 0 (omega arith) y ∙ below ∙ sym (count_no n (λ q. test (at xs q)) y))
    ]

-- how many of the numbers below n pass
pub count_range : (test : ℕ → Bool) (n : ℕ) → length (filter test (range_with_len 0 n)) ≡ count_below n test
count_range test n =
    let xs = range_with_len 0 n in
    let long : length xs ≡ n = length-range_with_len 0 n in
    length-filter test xs
    ∙ ap (count_by test) (sym (ap (λ (k : ℕ). take k xs) (sym long) ∙ take-length xs))
    ∙ count_first test xs n (omega arith)
    ∙ count_same n _ _ (λ q l. ap test (get_or-range_with_len 0 n q 0 l ∙ omega arith))

-- where the first element that passes stands
pub first_found : (test : ℕ → Bool) (xs : List ℕ) (i : ℕ) → position test xs ≡ Some i → (i < length xs) × (i ≡ first_below (length xs) (λ j. test (at xs j)))
first_found test xs i e =
    let found = position-Some test xs i 0 e in
    (found.0, sym (first_is (length xs) (λ j. test (at xs j)) i (record { lands = found.0; passes = found.1; least = found.2 })))

-- none where no element passes
pub none_found : (test : ℕ → Bool) (xs : List ℕ) → position test xs ≡ None → first_below (length xs) (λ j. test (at xs j)) ≡ length xs
none_found test xs e =
    let i = first_below (length xs) (λ j. test (at xs j)) in
    elim (first_cases (length xs) (λ j. test (at xs j))) [
      | inl r ↦
          let first = position_or_len_is test xs i 0 (omega (arith, r.lands)) r.least (λ _. r.passes) in
          let some : position test xs ≡ Some (position_or_len test xs) = cond-true _ _ _ (lt-ltb (position_or_len test xs) (length xs) (omega (arith, first, r.lands))) in
          absurd (cc (some, e))
      | inr r ↦ r.0
    ]
