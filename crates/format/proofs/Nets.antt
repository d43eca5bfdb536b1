-- The net of a lawful sheet is lawful.
use Rattle.std.proofs.Common.{◌≡◌, ℕ, ◌+◌, ◌*◌, ◌^◌, ◌<◌, ◌≤◌, cond, ◌&&◌, ltb, List, inl, inr, ⊎_elim, arith}
use Rattle.std.proofs.lemmas.Nat.{mod_below, pow_pos}
use Rattle.std.proofs.lemmas.Bool.{cond-true, cond-false, cond_both, and_left, and_right, and_from, cases_lt, lt-ltb, le-ltb}
use Rattle.finite.proofs.Sums.{sum_same, sum_zero}
use Rattle.net.specs.Model.{Lawful, Labelled, Outside, SmallBags}
use Rattle.format.specs.Fields.{field_at}
use Rattle.format.specs.Sheets.{net_of, places_of, transitions_of, row_at, weight_at, weights_from, size_at, LawfulSheet, sheet_refusal}
use Rattle.format.proofs.Refusals.{lawful_sheet}

pub field_below : (bs : List ℕ) (o w : ℕ) → field_at bs o w < 2 ^ w
unfolding field_at
field_below bs o w = mod_below _ (2 ^ w) (pow_pos w)

outside : (bs : List ℕ) (skip : ℕ) → Outside (places_of bs) (transitions_of bs) (weight_at bs skip)
outside bs skip t p (inl h) = cond-false (ltb t (transitions_of bs) && ltb p (places_of bs)) _ 0 (and_right (ltb t (transitions_of bs)) (ltb p (places_of bs)) (le-ltb p (places_of bs) h))
outside bs skip t p (inr h) = cond-false (ltb t (transitions_of bs) && ltb p (places_of bs)) _ 0 (and_left (ltb t (transitions_of bs)) (ltb p (places_of bs)) (le-ltb t (transitions_of bs) h))

-- a weight in the range is the field there
pub weight_in : (bs : List ℕ) (skip t p : ℕ) → t < transitions_of bs → p < places_of bs → weight_at bs skip t p ≡ weights_from bs (row_at (places_of bs) t + 10 + skip) p
weight_in bs skip t p h l = cond-true (ltb t (transitions_of bs) && ltb p (places_of bs)) _ 0 (and_from _ _ (lt-ltb t (transitions_of bs) h) (lt-ltb p (places_of bs) l))

small_bags : (bs : List ℕ) (skip : ℕ) → ((t : ℕ) → t < transitions_of bs → size_at bs (places_of bs) skip t ≤ 255) → SmallBags (places_of bs) (weight_at bs skip)
small_bags bs skip light t = ⊎_elim
    (λ (h : t < transitions_of bs). omega (
      arith,
      light t h,
      sum_same (places_of bs) (weight_at bs skip t) (weights_from bs (row_at (places_of bs) t + 10 + skip)) (λ q l. weight_in bs skip t q h l),
    ))
    (λ (h : transitions_of bs ≤ t). omega (arith, sum_zero (places_of bs) (weight_at bs skip t) (λ q _. outside bs skip t q (inr h))))
    (cases_lt t (transitions_of bs))

-- labels that are read at a place of the number's
labelled : (bs : List ℕ) (n : ℕ) (at : ℕ → ℕ) → Labelled n (λ i. cond (ltb i n) (field_at bs (at i) 10) 0)
labelled bs n at = (
  λ i. cond_both (ltb i n) (field_at bs (at i) 10) 0 (λ x. x ≤ 1023) (λ _. omega (arith, field_below bs (at i) 10)) (λ _. omega arith),
  λ i h. cond-false (ltb i n) _ 0 (le-ltb i n h),
)

pub lawful_net : (bs : List ℕ) → LawfulSheet bs → Lawful (net_of bs)
lawful_net bs s = record {
  few_places = s.places;
  few_transitions = s.transitions;
  place_labels = labelled bs (places_of bs) (λ p. 19 + 10 * p);
  transition_labels = labelled bs (transitions_of bs) (row_at (places_of bs));
  sizes = (small_bags bs 0 s.causes, small_bags bs (8 * places_of bs) s.effects);
  causes = outside bs 0;
  effects = outside bs (8 * places_of bs);
}

pub sheet_lawful : (bs : List ℕ) → sheet_refusal bs ≡ 0 → Lawful (net_of bs)
sheet_lawful bs e = lawful_net bs (lawful_sheet bs e)
