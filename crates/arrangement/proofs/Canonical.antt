-- A net has one least sheet, its enumeration reaches it, and isomorphic nets have the same.
use Rattle.std.proofs.Common.{◌≡◌, ℕ, suc, ◌<◌, false, eqb, List, [], ◌∷◌, map, length, sym, refl, ap, ◌∙◌, subst, arith}
use Rattle.std.proofs.lemmas.List.FromFn.{length-map-range_with_len, get_or-map-range_with_len}
use Rattle.std.proofs.lemmas.Bool.{not_from_false}
use Rattle.finite.specs.Below.{count_below}
use Rattle.finite.specs.Lexicographic.{lower}
use Rattle.finite.specs.Injections.{tabulate}
use Rattle.finite.proofs.Lexicographic.{at_most_anti}
use Rattle.finite.proofs.Products.{product_pos}
use Rattle.net.specs.Model.{Model, Lawful}
use Rattle.format.specs.Sheets.{sheet_of}
use Rattle.arrangement.specs.Arrangements.{at, Arrangement, Distinct}
use Rattle.arrangement.specs.Enumeration.{all_arrangements}
use Rattle.arrangement.specs.EndSheets.{sheet_along, least_of, least_sheet, Least}
use Rattle.arrangement.specs.Laws.{In}
use Rattle.arrangement.proofs.Isomorphic.{Isomorphic}
use Rattle.arrangement.proofs.Isomorphisms.{isomorphic_back, distinct_carried, carried, arrangement_carried, arranged_carried}
use Rattle.arrangement.proofs.Ordered.{arranged_same, arrangement_same}
use Rattle.arrangement.proofs.Counting.{count_by_places}
use Rattle.arrangement.proofs.Lists.{in_map, in_map_cases, least_in, least_not_above}
use Rattle.arrangement.proofs.Enumeration.{enumerated}

pub least_one : (m : Model) (d e : List ℕ) → Least m d → Least m e → d ≡ e
least_one m d e x y = at_most_anti d e
    (not_from_false (lower e d) (subst (λ z. lower z d ≡ false) y.reached (x.least y.arrangement y.arranges)))
    (not_from_false (lower d e) (subst (λ z. lower z e ≡ false) x.reached (y.least x.arrangement x.arranges)))

-- an arrangement has the sheet of one of the enumerated lists
sheet_listed : (m : Model) → Lawful m → (b : ℕ → ℕ) → Arrangement m b → In (sheet_along m b) (map (λ a. sheet_along m (at a)) (all_arrangements m))
sheet_listed m w b o =
    let listed = tabulate b m.places in
    let same : (i : ℕ) → i < m.places → b i ≡ at listed i = λ i l. sym (get_or-map-range_with_len b 0 m.places i i 0 l (omega arith)) in
    let stands = (enumerated m w).whole listed (length-map-range_with_len b 0 m.places) (arrangement_same m b (at listed) same o) in
    subst (λ x. In x (map (λ a. sheet_along m (at a)) (all_arrangements m))) (sym (ap sheet_of (arranged_same m b (at listed) same)))
    (in_map (λ a. sheet_along m (at a)) listed (all_arrangements m) stands)

-- a net has an arrangement
some_arrangement : (m : Model) → Lawful m → 0 < length (all_arrangements m)
some_arrangement m w = omega (
  arith,
  (enumerated m w).number,
  count_by_places m w,
  product_pos m.places (λ p. suc (count_below p (λ q. eqb (m.place_label q) (m.place_label p)))) (λ p. omega arith),
)

pub least_reached : (m : Model) → Lawful m → Distinct m → Least m (least_sheet m)
unfolding least_sheet
least_reached m w d = from (all_arrangements m) refl
  where
    key : List ℕ → List ℕ
    key a = sheet_along m (at a)

    from : (all : List (List ℕ)) → all_arrangements m ≡ all → Least m (least_of (map key (all_arrangements m)))
    from [] e = absurd (omega (arith, some_arrangement m w, ap length e))
    from (x ∷ xs) e =
        let r = in_map_cases key (least_of (map key (x ∷ xs))) (x ∷ xs) (least_in (key x) (map key xs)) in
        subst (λ all. Least m (least_of (map key all))) (sym e) (record {
          arrangement = at r.0;
          arranges = ((enumerated m w).sound r.0 (subst (In r.0) (sym e) r.1)).1;
          reached = sym r.2;
          least = λ b o. least_not_above (key x) (map key xs) (sheet_along m b) (subst (λ all. In (sheet_along m b) (map key all)) e (sheet_listed m w b o));
        })

pub least_is : (m : Model) (e : List ℕ) → Lawful m → Distinct m → Least m e → least_sheet m ≡ e
least_is m e w d h = least_one m (least_sheet m) e (least_reached m w d) h

-- the least sheet of a net is that of an isomorphic one
least_kept : (m n : Model) (e : List ℕ) → Distinct m → Isomorphic m n → Least m e → Least n e
least_kept m n e d s h =
    let back : Isomorphic n m = isomorphic_back m n s in
    record {
      arrangement = carried m n s h.arrangement;
      arranges = arrangement_carried m n s h.arrangement h.arranges;
      reached = ap sheet_of (arranged_carried m n s h.arrangement d h.arranges) ∙ h.reached;
      least = λ b o.
          ap (λ (x : Model). lower (sheet_of x) e) (sym (arranged_carried n m back b (distinct_carried m n s d) o))
          ∙ h.least (carried n m back b) (arrangement_carried n m back b o);
    }

pub least_carried : (m n : Model) → Lawful m → Lawful n → Distinct m → Isomorphic m n → least_sheet m ≡ least_sheet n
least_carried m n wm wn d s = sym (least_is n (least_sheet m) wn (distinct_carried m n s d) (least_kept m n (least_sheet m) d s (least_reached m wm d)))
