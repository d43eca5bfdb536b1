-- A net in an order is known by what it answers within its range.
use Rattle.std.proofs.Common.{◌≡◌, ℕ, ◌<◌, ◌≤◌, cond, ◌&&◌, ltb, sym, refl, ap, ◌∙◌, subst, ap₂, ⊎_elim, arith}
use mathlib.Core.Path.{fun_ext}
use Rattle.std.proofs.lemmas.Bool.{cases_lt, le-ltb, lt-ltb, cond-true, cond-false, and_left, and_right, and_from}
use Rattle.net.specs.Model.{Model}
use Rattle.net.proofs.Agrees.{same_answers}
use Rattle.finite.specs.Injections.{inverse}
use Rattle.arrangement.specs.Arrangements.{Arrangement, reordered, ordered, arranged, position}
use Rattle.arrangement.proofs.Positions.{position_same}

-- within the range a guarded number is the number, outside it is 0
pub inside : (n x i : ℕ) → i < n → cond (ltb i n) x 0 ≡ x
inside n x i l = cond-true (ltb i n) x 0 (lt-ltb i n l)

pub outside : (n x i : ℕ) → n ≤ i → cond (ltb i n) x 0 ≡ 0
outside n x i l = cond-false (ltb i n) x 0 (le-ltb i n l)

-- the same with two ranges
pub inside_both : (n k x j i : ℕ) → j < n → i < k → cond (ltb j n && ltb i k) x 0 ≡ x
inside_both n k x j i l h = cond-true (ltb j n && ltb i k) x 0 (and_from (ltb j n) (ltb i k) (lt-ltb j n l) (lt-ltb i k h))

pub outside_left : (n k x j i : ℕ) → n ≤ j → cond (ltb j n && ltb i k) x 0 ≡ 0
outside_left n k x j i l = cond-false (ltb j n && ltb i k) x 0 (and_left (ltb j n) (ltb i k) (le-ltb j n l))

pub outside_right : (n k x j i : ℕ) → k ≤ i → cond (ltb j n && ltb i k) x 0 ≡ 0
outside_right n k x j i l = cond-false (ltb j n && ltb i k) x 0 (and_right (ltb j n) (ltb i k) (le-ltb i k l))

guarded_same : (n k : ℕ) (f g : ℕ → ℕ) → n ≡ k → ((i : ℕ) → i < n → f i ≡ g i) → ◌≡◌ {A = ℕ → ℕ} (λ i. cond (ltb i n) (f i) 0) (λ i. cond (ltb i k) (g i) 0)
guarded_same n k f g e h = fun_ext (λ i. ⊎_elim
    (λ (l : i < n). inside n (f i) i l ∙ h i l ∙ sym (inside k (g i) i (omega arith)))
    (λ (l : n ≤ i). outside n (f i) i l ∙ sym (outside k (g i) i (omega arith)))
    (cases_lt i n))

weights_same : (m o : Model) (a b ts us : ℕ → ℕ) (v w : ℕ → ℕ → ℕ) → m.places ≡ o.places → m.transitions ≡ o.transitions →
    ((j i : ℕ) → j < m.transitions → i < m.places → v (ts j) (a i) ≡ w (us j) (b i)) → reordered m a ts v ≡ reordered o b us w
weights_same m o a b ts us v w p t h = fun_ext (λ j. fun_ext (λ i. ⊎_elim
    (λ (k : j < m.transitions). ⊎_elim
    (λ (l : i < m.places). inside_both _ _ _ j i k l ∙ h j i k l ∙ sym (inside_both _ _ _ j i (omega arith) (omega arith)))
    (λ (l : m.places ≤ i). outside_right _ _ _ j i l ∙ sym (outside_right _ _ _ j i (omega arith)))
    (cases_lt i m.places))
    (λ (k : m.transitions ≤ j). outside_left _ _ _ j i k ∙ sym (outside_left _ _ _ j i (omega arith)))
    (cases_lt j m.transitions)))

-- two nets, each in an order, that answer alike within their range are one net
pub ordered_same : (m o : Model) (a b ts us : ℕ → ℕ) → m.places ≡ o.places → m.transitions ≡ o.transitions →
    ((i : ℕ) → i < m.places → m.place_label (a i) ≡ o.place_label (b i)) →
    ((j : ℕ) → j < m.transitions → m.transition_label (ts j) ≡ o.transition_label (us j)) →
    ((j i : ℕ) → j < m.transitions → i < m.places → m.cause (ts j) (a i) ≡ o.cause (us j) (b i)) →
    ((j i : ℕ) → j < m.transitions → i < m.places → m.effect (ts j) (a i) ≡ o.effect (us j) (b i)) → ordered m a ts ≡ ordered o b us
ordered_same m o a b ts us p t place_labels transition_labels causes effects = same_answers (ordered m a ts) (ordered o b us) p t
    (guarded_same m.places o.places (λ i. m.place_label (a i)) (λ i. o.place_label (b i)) p place_labels)
    (guarded_same m.transitions o.transitions (λ j. m.transition_label (ts j)) (λ j. o.transition_label (us j)) t transition_labels)
    (weights_same m o a b ts us m.cause o.cause p t causes)
    (weights_same m o a b ts us m.effect o.effect p t effects)

-- the net of an arrangement depends on the order only at the numbers of places
pub arranged_same : (m : Model) (a b : ℕ → ℕ) → ((i : ℕ) → i < m.places → a i ≡ b i) → arranged m a ≡ arranged m b
arranged_same m a b h =
    let same : (j : ℕ) → inverse (position m a) m.transitions j ≡ inverse (position m b) m.transitions j = λ j.
    ap (λ (f : ℕ → ℕ). inverse f m.transitions j) (fun_ext (position_same m a b h)) in
    ordered_same m m a b _ _ refl refl (λ i l. ap m.place_label (h i l)) (λ j l. ap m.transition_label (same j))
    (λ j i k l. ap₂ m.cause (same j) (h i l)) (λ j i k l. ap₂ m.effect (same j) (h i l))

-- and so does whether it is an arrangement
pub arrangement_same : (m : Model) (a b : ℕ → ℕ) → ((i : ℕ) → i < m.places → a i ≡ b i) → Arrangement m a → Arrangement m b
arrangement_same m a b h o = record {
  permutes = record {
    lands = λ i l. subst (λ x. x < m.places) (h i l) (o.permutes.lands i l);
    apart = λ i k l s e. o.permutes.apart i k l s (h i l ∙ e ∙ sym (h k s));
  };
  ascends = λ i j l k.
      let first : m.place_label (a i) ≡ m.place_label (b i) = ap m.place_label (h i (omega arith)) in
      let second : m.place_label (a j) ≡ m.place_label (b j) = ap m.place_label (h j k) in
      omega (arith, o.ascends i j l k);
}
