-- The sheet of an arranged net as a list of numbers, the values of its fields.
use Rattle.std.proofs.Common.{◌≡◌, ℕ, zero, suc, ◌+◌, ◌<◌, List, [], ◌∷◌, ◌++◌, map, sym, refl, ap, ◌∙◌, ap₂, arith}
use Rattle.std.specs.List.{range_with_len, flat_map}
use Rattle.std.proofs.lemmas.List.{map-append, append-nil, append_assoc}
use Rattle.finite.specs.Injections.{tabulate}
use Rattle.finite.proofs.Tables.{tabulate_cong, joined_cong}
use Rattle.net.specs.Model.{Model}
use Rattle.format.specs.Fields.{Field, each}
use Rattle.format.specs.Sheets.{label_width, weight_width, fields_of, labels_of, weights_of, row_of, rows_of}
use Rattle.format.proofs.Order.{values}
use Rattle.arrangement.specs.Arrangements.{row, standing, reordered, arranged, rows_along}
use Rattle.arrangement.proofs.Ordered.{inside, inside_both}

-- all of a net as one list of numbers
unfoldable pub sheet : Model → List ℕ
sheet m = values (fields_of m)

-- parts put together from the front, and from the back
joined_last : {X : Type 0} (f : ℕ → List X) (a n j : ℕ) → a + n ≡ j → flat_map f (range_with_len a (suc n)) ≡ flat_map f (range_with_len a n) ++ f j
joined_last f a zero j e = let same : a ≡ j = omega arith in append-nil (f a) ∙ ap f same
joined_last f a (suc n) j e = ap (λ xs. f a ++ xs) (joined_last f (a + 1) n j (omega arith)) ∙ sym (append_assoc (f a) (flat_map f (range_with_len (a + 1) n)) (f j))

values_each : (f : ℕ → List Field) (n : ℕ) → values (each f n) ≡ flat_map (λ i. values (f i)) (range_with_len 0 n)
unfolding each
values_each f zero = refl
values_each f (suc n) =
    map-append (λ (x : Field). x.1) (each f n) (f n)
    ∙ ap (λ (xs : List ℕ). xs ++ values (f n)) (values_each f n)
    ∙ sym (joined_last (λ i. values (f i)) 0 n n (omega arith))

joined_ones : (f : ℕ → ℕ) (a n : ℕ) → flat_map (λ i. f i ∷ []) (range_with_len a n) ≡ map f (range_with_len a n)
joined_ones f a zero = refl
joined_ones f a (suc n) = ap (◌∷◌ (f a)) (joined_ones f (a + 1) n)

values_ones : (w : ℕ) (f : ℕ → ℕ) (n : ℕ) → values (each (λ i. (w, f i) ∷ []) n) ≡ tabulate f n
values_ones w f n = values_each (λ i. (w, f i) ∷ []) n ∙ joined_ones f 0 n

-- the weights of the transition at position j, where the places stand
values_weights : (m : Model) (a ts : ℕ → ℕ) (weight : ℕ → ℕ → ℕ) (j : ℕ) → j < m.transitions →
    values (weights_of (reordered m a ts weight j) m.places) ≡ tabulate (λ i. weight (ts j) (a i)) m.places
values_weights m a ts weight j l =
    values_ones weight_width (reordered m a ts weight j) m.places
    ∙ tabulate_cong _ _ _ _ refl (λ i k. inside_both _ _ _ j i l k)

-- the row of an arranged net at position j is that of the transition that stands there
values_row : (m : Model) (a : ℕ → ℕ) (j : ℕ) → j < m.transitions → values (row_of (arranged m a) j) ≡ row m a (standing m a j)
unfolding row
values_row m a j l =
    ap₂ ◌∷◌ (inside _ _ j l)
    (map-append (λ (x : Field). x.1) (weights_of ((arranged m a).cause j) m.places) (weights_of ((arranged m a).effect j) m.places)
    ∙ ap₂ ◌++◌ (values_weights m a (standing m a) m.cause j l) (values_weights m a (standing m a) m.effect j l))

pub sheet_arranged : (m : Model) (a : ℕ → ℕ) →
    sheet (arranged m a) ≡ (1 ∷ (m.places ∷ (m.transitions ∷ (tabulate (λ i. m.place_label (a i)) m.places ++ rows_along m a))))
unfolding sheet
sheet_arranged m a =
    ap (λ (xs : List ℕ). 1 ∷ (m.places ∷ (m.transitions ∷ xs)))
    (map-append (λ (x : Field). x.1) (labels_of (arranged m a)) (rows_of (arranged m a))
    ∙ ap₂ ◌++◌
    (values_ones label_width (arranged m a).place_label m.places ∙ tabulate_cong _ _ _ _ refl (λ i k. inside _ _ i k))
    (values_each (row_of (arranged m a)) m.transitions ∙ joined_cong _ _ m.transitions 0 (λ j l k. values_row m a j (omega arith))))
