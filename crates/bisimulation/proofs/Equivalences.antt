-- Each round is an equivalence.
use Rattle.std.proofs.Common.{ℕ, zero, suc, ◌<◌, eqb, sym, refl, ◌∙◌, inl, inr, arith}
use Rattle.std.proofs.lemmas.Bool.{eqb-true, eq-eqb}
use Rattle.net.specs.Model.{Model}
use Rattle.bisimulation.specs.Groups.{Groups, Equivalence, Equivalences}
use Rattle.bisimulation.specs.Rounds.{refine, rounds, final, rest}
use Rattle.bisimulation.proofs.Bags.{unit_at, unit_self}
use Rattle.bisimulation.proofs.Views.{Replaces, Exchanges, place_says, says_place, transition_says, says_transition}

-- the partner u of t has q in its cause
has_other : (m : Model) (p q t u : ℕ) → q < m.places → 0 < m.cause t p → Replaces m p q t u → 0 < m.cause u q
has_other m p q t u l w c =
    elim (unit_at p q) [ inl e ↦ omega (arith, c q l, unit_self q, rw e.0 at w) | inr e ↦ omega (arith, c q l, unit_self q) ]

exchange_self : (m : Model) (r : Groups) → Equivalences m r → (p : ℕ) → Exchanges m r p p
exchange_self m r E p t l w = (t, l, E.on_transitions.self t l, λ x _. refl)

exchange_join :
    (m : Model) (r : Groups) →
    Equivalences m r →
    (p q c : ℕ) →
    q < m.places →
    Exchanges m r p q →
    Exchanges m r q c →
    Exchanges m r p c
exchange_join m r E p q c l f g t i w =
    let a = f t i w in
    let b = g a.0 a.1 (has_other m p q t a.0 l w a.3) in
    (b.0, b.1, E.on_transitions.join t a.0 b.0 i a.1 b.1 a.2 b.2, λ x k. omega (arith, a.3 x k, b.3 x k))

pub refine_equivalences : (m : Model) (r : Groups) → Equivalences m r → Equivalences m (refine m r)
refine_equivalences m r E =
    record {
      on_places =
          record {
            self =
                λ a i.
                says_place m r a a (record { before = E.on_places.self a i; there = exchange_self m r E a; return = exchange_self m r E a });
            turn =
                λ a b i j h.
                let s = place_says m r a b h in
                says_place m r b a (record { before = E.on_places.turn a b i j s.before; there = s.return; return = s.there });
            join =
                λ a b c i j k h h'.
                let s = place_says m r a b h in
                let s' = place_says m r b c h' in
                says_place m r a c
                (record {
                  before = E.on_places.join a b c i j k s.before s'.before;
                  there = exchange_join m r E a b c j s.there s'.there;
                  return = exchange_join m r E c b a j s'.return s.return;
                });
          };
      on_transitions =
          record {
            self = λ a i. says_transition m r a a (record { before = E.on_transitions.self a i; causes = λ g _. refl; effects = λ g _. refl });
            turn =
                λ a b i j h.
                let s = transition_says m r a b h in
                says_transition m r b a
                (record {
                  before = E.on_transitions.turn a b i j s.before;
                  causes = λ g l. sym (s.causes g l);
                  effects = λ g l. sym (s.effects g l);
                });
            join =
                λ a b c i j k h h'.
                let s = transition_says m r a b h in
                let s' = transition_says m r b c h' in
                says_transition m r a c
                (record {
                  before = E.on_transitions.join a b c i j k s.before s'.before;
                  causes = λ g l. s.causes g l ∙ s'.causes g l;
                  effects = λ g l. s.effects g l ∙ s'.effects g l;
                });
          };
    }

-- two with one label are together
label_equivalence : (n : ℕ) (label : ℕ → ℕ) → Equivalence n (λ a b. eqb (label a) (label b))
label_equivalence n label =
    record {
      self = λ a _. eq-eqb _ _ refl;
      turn = λ a b _ _ h. eq-eqb _ _ (sym (eqb-true _ _ h));
      join = λ a b c _ _ _ h h'. eq-eqb _ _ (eqb-true _ _ h ∙ eqb-true _ _ h');
    }

pub rounds_equivalences : (m : Model) (k : ℕ) → Equivalences m (rounds m k)
unfolding rounds
rounds_equivalences m zero =
    record { on_places = label_equivalence m.places m.place_label; on_transitions = label_equivalence m.transitions m.transition_label }
rounds_equivalences m (suc k) = refine_equivalences m (rounds m k) (rounds_equivalences m k)

pub final_equivalences : (m : Model) → Equivalences m (final m)
unfolding final
final_equivalences m = rounds_equivalences m (rest m)
