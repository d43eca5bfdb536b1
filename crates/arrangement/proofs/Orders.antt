-- All arrangements of a net have the same place labels in order, so that the order of their sheets is the order of their rows.
use Rattle.std.proofs.Common.{◌≡◌, ℕ, suc, ◌<◌, ◌≤◌, true, List, ◌∷◌, ◌++◌, sym, refl, ap, ◌∙◌, ap₂, ⊎_elim, arith}
use Rattle.std.proofs.lemmas.Bool.{cases_lt, cases_order, not-true}
use Rattle.finite.specs.Lexicographic.{lower, at_most}
use Rattle.finite.specs.Injections.{Injects, inverse, tabulate}
use Rattle.finite.proofs.Lexicographic.{lower_front}
use Rattle.finite.proofs.Injections.{inverse_lands, inverse_right, injects_le}
use Rattle.finite.proofs.Tables.{tabulate_cong}
use Rattle.net.specs.Model.{Model, Lawful}
use Rattle.format.proofs.Order.{sheet_order}
use Rattle.arrangement.specs.Arrangements.{Arrangement, Distinct, arranged, rows_along}
use Rattle.arrangement.specs.EndSheets.{sheet_along, Least}
use Rattle.arrangement.proofs.Sheets.{sheet, sheet_arranged}
use Rattle.arrangement.proofs.Lawfulness.{arranged_lawful}

label_not_below : (m : Model) (a b : ℕ → ℕ) → Arrangement m a → Arrangement m b → (i : ℕ) → i < m.places → m.place_label (a i) < m.place_label (b i) → ⊥
label_not_below m a b oa ob i l h =
    let n = m.places in
    let back : ℕ → ℕ = λ k. inverse b n (a k) in
    let place : (k : ℕ) → k < suc i → b (back k) ≡ a k = λ k x. inverse_right b n ob.permutes (a k) (oa.permutes.lands k (omega arith)) in
    let within : (k : ℕ) → k < suc i → back k < n = λ k x. inverse_lands b n ob.permutes (a k) (oa.permutes.lands k (omega arith)) in
    let inj : Injects back (suc i) i = record {
      lands = λ k x. ⊎_elim (λ (z : back k < i). z)
          (λ (z : i ≤ back k).
          let one : m.place_label (b i) ≤ m.place_label (b (back k)) = ob.ascends i (back k) z (within k x) in
          let two : m.place_label (a k) ≤ m.place_label (a i) = oa.ascends k i (omega arith) l in
          let three : m.place_label (b (back k)) ≡ m.place_label (a k) = ap m.place_label (place k x) in
          absurd (omega arith))
          (cases_lt (back k) i);
      apart = λ j k x y e. oa.permutes.apart j k (omega arith) (omega arith) (sym (place j x) ∙ ap b e ∙ place k y);
    } in
    let r : suc i ≤ i = injects_le back (suc i) i inj in
    omega arith

-- each arrangement has the same labels in their order
pub same_labels : (m : Model) (a b : ℕ → ℕ) → Arrangement m a → Arrangement m b → (i : ℕ) → i < m.places → m.place_label (a i) ≡ m.place_label (b i)
same_labels m a b oa ob i l = ⊎_elim (λ e. e)
    (⊎_elim (λ h. absurd (label_not_below m a b oa ob i l h)) (λ h. absurd (label_not_below m b a ob oa i l h)))
    (cases_order (m.place_label (a i)) (m.place_label (b i)))

-- sheets stand in the order of their rows
pub along_order : (m : Model) (a b : ℕ → ℕ) → Lawful m → Distinct m → Arrangement m a → Arrangement m b →
    lower (sheet_along m b) (sheet_along m a) ≡ lower (rows_along m b) (rows_along m a)
unfolding sheet
along_order m a b w d oa ob =
    let front : (ℕ → ℕ) → List ℕ = λ x. 1 ∷ (m.places ∷ (m.transitions ∷ tabulate (λ i. m.place_label (x i)) m.places)) in
    let same : front a ≡ front b = ap (λ (xs : List ℕ). 1 ∷ (m.places ∷ (m.transitions ∷ xs))) (tabulate_cong _ _ _ _ refl (same_labels m a b oa ob)) in
    sheet_order (arranged m b) (arranged m a) (arranged_lawful m b w d ob) (arranged_lawful m a w d oa) refl refl
    ∙ ap₂ lower (sheet_arranged m b) (sheet_arranged m a ∙ ap (λ (xs : List ℕ). xs ++ rows_along m a) same)
    ∙ lower_front (front b) (rows_along m b) (rows_along m a)

-- an arrangement with the lowest rows has the least sheet
pub least_from_rows : (m : Model) (a : ℕ → ℕ) → Lawful m → Distinct m → Arrangement m a →
    ((b : ℕ → ℕ) → Arrangement m b → at_most (rows_along m a) (rows_along m b) ≡ true) → Least m (sheet_along m a)
least_from_rows m a w d o h = record {
  arrangement = a;
  arranges = o;
  reached = refl;
  least = λ b ob. along_order m a b w d o ob ∙ not-true (lower (rows_along m b) (rows_along m a)) (h b ob);
}
