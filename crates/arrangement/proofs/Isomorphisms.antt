-- Isomorphic nets: an arrangement of one, carried to the other, has the same net there.
use Rattle.std.proofs.Common.{◌≡◌, ℕ, ◌<◌, ◌∷◌, ◌++◌, sym, ap, ◌∙◌, ap₂, arith}
use Rattle.finite.specs.Lexicographic.{lower}
use Rattle.finite.proofs.Injections.{bijects_injects, bijects_back, bijects_size, count_bijects}
use Rattle.finite.proofs.Tables.{tabulate_cong}
use Rattle.net.specs.Model.{Model}
use Rattle.arrangement.specs.Arrangements.{Distinct, Arrangement, row, position, standing, arranged}
use Rattle.arrangement.proofs.Positions.{position_apart, position_standing, standing_lands}
use Rattle.arrangement.proofs.Ordered.{ordered_same}
use Rattle.arrangement.proofs.Isomorphic.{Isomorphic}

pub isomorphic_back : (m n : Model) → Isomorphic m n → Isomorphic n m
isomorphic_back m n s =
    record {
      place = s.place_back;
      place_back = s.place;
      transition = s.transition_back;
      transition_back = s.transition;
      on_places = bijects_back _ _ _ _ s.on_places;
      on_transitions = bijects_back _ _ _ _ s.on_transitions;
      place_labels = λ q l. sym (s.place_labels (s.place_back q) (s.on_places.returns q l)) ∙ ap n.place_label (s.on_places.right q l);
      transition_labels = λ u l. sym (s.transition_labels (s.transition_back u) (s.on_transitions.returns u l)) ∙ ap n.transition_label (s.on_transitions.right u l);
      causes = λ u q k l.
          sym (s.causes (s.transition_back u) (s.place_back q) (s.on_transitions.returns u k) (s.on_places.returns q l))
          ∙ ap₂ n.cause (s.on_transitions.right u k) (s.on_places.right q l);
      effects = λ u q k l.
          sym (s.effects (s.transition_back u) (s.place_back q) (s.on_transitions.returns u k) (s.on_places.returns q l))
          ∙ ap₂ n.effect (s.on_transitions.right u k) (s.on_places.right q l);
    }

pub same_places : (m n : Model) → Isomorphic m n → m.places ≡ n.places
same_places m n s = bijects_size s.place s.place_back m.places n.places s.on_places

pub same_transitions : (m n : Model) → Isomorphic m n → m.transitions ≡ n.transitions
same_transitions m n s = bijects_size s.transition s.transition_back m.transitions n.transitions s.on_transitions

pub distinct_carried : (m n : Model) → Isomorphic m n → Distinct m → Distinct n
unfolding isomorphic_back
distinct_carried m n s d =
    let r : Isomorphic n m = isomorphic_back m n s in
    record {
      apart = λ t u l h label causes effects.
          let t' = s.transition_back t in
          let u' = s.transition_back u in
          let in-t : t' < m.transitions = s.on_transitions.returns t l in
          let in-u : u' < m.transitions = s.on_transitions.returns u h in
          let cause-of : (v p : ℕ) → v < n.transitions → p < m.places → m.cause (s.transition_back v) p ≡ n.cause v (s.place p) = λ v p x y.
          sym (s.causes _ p (s.on_transitions.returns v x) y) ∙ ap (λ (z : ℕ). n.cause z (s.place p)) (s.on_transitions.right v x) in
          let effect_of : (v p : ℕ) → v < n.transitions → p < m.places → m.effect (s.transition_back v) p ≡ n.effect v (s.place p) = λ v p x y.
          sym (s.effects _ p (s.on_transitions.returns v x) y) ∙ ap (λ (z : ℕ). n.effect z (s.place p)) (s.on_transitions.right v x) in
          let e : t' ≡ u' = d.apart t' u' in-t in-u (r.transition_labels t l ∙ label ∙ sym (r.transition_labels u h))
          (λ p k. cause-of t p l k ∙ causes (s.place p) (s.on_places.lands p k) ∙ sym (cause-of u p h k))
          (λ p k. effect_of t p l k ∙ effects (s.place p) (s.on_places.lands p k) ∙ sym (effect_of u p h k)) in
          sym (s.on_transitions.right t l) ∙ ap s.transition e ∙ s.on_transitions.right u h;
    }

-- the arrangement of n that goes with the arrangement a of m
abbrev pub carried : (m n : Model) → Isomorphic m n → (ℕ → ℕ) → ℕ → ℕ
carried m n s a i = s.place (a i)

pub arrangement_carried : (m n : Model) (s : Isomorphic m n) (a : ℕ → ℕ) → Arrangement m a → Arrangement n (carried m n s a)
arrangement_carried m n s a o =
    let size : m.places ≡ n.places = same_places m n s in
    let inj = bijects_injects s.place s.place_back m.places n.places s.on_places in
    record {
      permutes = record {
        lands = λ i l. s.on_places.lands (a i) (o.permutes.lands i (omega arith));
        apart = λ i k l h e. o.permutes.apart i k (omega arith) (omega arith) (inj.apart (a i) (a k) (o.permutes.lands i (omega arith)) (o.permutes.lands k (omega arith)) e);
      };
      ascends = λ i j l h.
          let in-j : j < m.places = omega arith in
          let in-i : i < m.places = omega arith in
          let x = s.place_labels (a i) (o.permutes.lands i in-i) in
          let y = s.place_labels (a j) (o.permutes.lands j in-j) in
          let z = o.ascends i j l in-j in
          omega arith;
    }

pub row_carried : (m n : Model) (s : Isomorphic m n) (a : ℕ → ℕ) → Arrangement m a →
    (t : ℕ) → t < m.transitions → row n (carried m n s a) (s.transition t) ≡ row m a t
unfolding row
row_carried m n s a o t l =
    let size : n.places ≡ m.places = sym (same_places m n s) in
    ap₂ ◌∷◌ (s.transition_labels t l)
    (ap₂ ◌++◌
    (tabulate_cong _ _ _ _ size (λ i k. s.causes t (a i) l (o.permutes.lands i (omega arith))))
    (tabulate_cong _ _ _ _ size (λ i k. s.effects t (a i) l (o.permutes.lands i (omega arith)))))

pub position_carried : (m n : Model) (s : Isomorphic m n) (a : ℕ → ℕ) → Arrangement m a →
    (t : ℕ) → t < m.transitions → position n (carried m n s a) (s.transition t) ≡ position m a t
unfolding position
position_carried m n s a o t l =
    sym (count_bijects s.transition s.transition_back m.transitions n.transitions s.on_transitions
    (λ u. lower (row m a u) (row m a t)) (λ u. lower (row n (carried m n s a) u) (row n (carried m n s a) (s.transition t)))
    (λ u k. ap₂ lower (row_carried m n s a o u k) (row_carried m n s a o t l)))

pub standing_carried : (m n : Model) (s : Isomorphic m n) (a : ℕ → ℕ) → Distinct m → Arrangement m a →
    (j : ℕ) → j < m.transitions → standing n (carried m n s a) j ≡ s.transition (standing m a j)
standing_carried m n s a d o j l =
    let o' = arrangement_carried m n s a o in
    let d' = distinct_carried m n s d in
    let size : m.transitions ≡ n.transitions = same_transitions m n s in
    let h : j < n.transitions = omega arith in
    let k : standing m a j < m.transitions = standing_lands m a d o j l in
    position_apart n (carried m n s a) d' o' (standing n (carried m n s a) j) (s.transition (standing m a j))
    (standing_lands n _ d' o' j h) (s.on_transitions.lands _ k)
    (position_standing n _ d' o' j h ∙ sym (position_standing m a d o j l) ∙ sym (position_carried m n s a o (standing m a j) k))

-- the net of an arrangement is the net of that arrangement carried
pub arranged_carried : (m n : Model) (s : Isomorphic m n) (a : ℕ → ℕ) → Distinct m → Arrangement m a → arranged n (carried m n s a) ≡ arranged m a
arranged_carried m n s a d o =
    let places : n.places ≡ m.places = sym (same_places m n s) in
    let transitions : n.transitions ≡ m.transitions = sym (same_transitions m n s) in
    let in-places : (i : ℕ) → i < n.places → a i < m.places = λ i l. o.permutes.lands i (omega arith) in
    let stands : (j : ℕ) → j < n.transitions → standing n (carried m n s a) j ≡ s.transition (standing m a j) = λ j l. standing_carried m n s a d o j (omega arith) in
    let lands : (j : ℕ) → j < n.transitions → standing m a j < m.transitions = λ j l. standing_lands m a d o j (omega arith) in
    ordered_same n m (carried m n s a) a (standing n (carried m n s a)) (standing m a) places transitions
    (λ i l. s.place_labels (a i) (in-places i l))
    (λ j l. ap n.transition_label (stands j l) ∙ s.transition_labels (standing m a j) (lands j l))
    (λ j i l k. ap (λ (t : ℕ). n.cause t (s.place (a i))) (stands j l) ∙ s.causes (standing m a j) (a i) (lands j l) (in-places i k))
    (λ j i l k. ap (λ (t : ℕ). n.effect t (s.place (a i))) (stands j l) ∙ s.effects (standing m a j) (a i) (lands j l) (in-places i k))
