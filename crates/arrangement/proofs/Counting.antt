-- The number of arrangements: place after place, and the same for isomorphic nets.
use Rattle.std.proofs.Common.{◌≡◌, ℕ, zero, suc, ◌*◌, ◌<◌, eqb, sym, refl, ap, ◌∙◌, arith}
use Rattle.std.proofs.lemmas.Bool.{eq-eqb, ne_eqb}
use Rattle.finite.specs.Below.{count_below}
use Rattle.finite.specs.Products.{product_below, factorial}
use Rattle.finite.proofs.Injections.{count_next, count_stay, count_bijects}
use Rattle.finite.proofs.Products.{product_same, product_at, product_ones}
use Rattle.net.specs.Model.{Model, Lawful, highest_label}
use Rattle.arrangement.specs.Enumeration.{arrangement_count}
use Rattle.arrangement.proofs.Isomorphic.{Isomorphic}

-- how many numbers below n have the label l
abbrev pub having_label : (ℕ → ℕ) → ℕ → ℕ → ℕ
having_label f n l = count_below n (λ q. eqb (f q) l)

-- place after place: each can stand beside one of the places that have its label already, or as the first of them
abbrev pub ways_below : ℕ → (ℕ → ℕ) → ℕ
ways_below n f = product_below n (λ p. suc (having_label f p (f p)))

pub ways_by_labels : (f : ℕ → ℕ) (n top : ℕ) → ((p : ℕ) → p < n → f p < top) → ways_below n f ≡ product_below top (λ l. factorial (having_label f n l))
unfolding product_below factorial count_below
ways_by_labels f zero top h = sym (product_ones top)
ways_by_labels f (suc n) top h =
    let k = suc (having_label f n (f n)) in
    let before : ways_below n f ≡ product_below top (λ l. factorial (having_label f n l)) = ways_by_labels f n top (λ p l. h p (omega arith)) in
    let here : factorial (having_label f (suc n) (f n)) ≡ factorial (having_label f n (f n)) * k = ap factorial (count_next n (λ q. eqb (f q) (f n)) (eq-eqb (f n) (f n) refl)) in
    let other : (l : ℕ) → (l ≡ f n → ⊥) → factorial (having_label f (suc n) l) ≡ factorial (having_label f n l) = λ l z.
    ap factorial (count_stay n (λ q. eqb (f q) l) (ne_eqb (f n) l (λ e. z (sym e)))) in
    ap (λ (x : ℕ). x * k) before
    ∙ sym (product_at top (λ l. factorial (having_label f n l)) (λ l. factorial (having_label f (suc n) l)) (f n) k (h n (omega arith)) here other)

pub count_by_places : (m : Model) → Lawful m → arrangement_count m ≡ product_below m.places (λ p. suc (count_below p (λ q. eqb (m.place_label q) (m.place_label p))))
unfolding arrangement_count
count_by_places m w = sym (ways_by_labels m.place_label m.places (suc highest_label) (λ p _. omega (arith, w.place_labels.0 p)))

-- isomorphic nets have equally many arrangements
pub count_carried : (m n : Model) → Isomorphic m n → arrangement_count m ≡ arrangement_count n
unfolding arrangement_count
count_carried m n s = product_same (suc highest_label) _ _ (λ l _. ap factorial
    (count_bijects s.place s.place_back m.places n.places s.on_places (λ p. eqb (m.place_label p) l) (λ p. eqb (n.place_label p) l)
    (λ p k. ap (λ (x : ℕ). eqb x l) (s.place_labels p k))))
