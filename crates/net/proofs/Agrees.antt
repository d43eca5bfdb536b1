-- Two lawful nets that answer alike are one.
use Rattle.std.proofs.Common.{◌≡◌, ℕ, ◌<◌, ◌≤◌, sym, ◌∙◌, inl, inr, ⊎_elim, arith}
use mathlib.Core.Path.{fun_ext}
use Rattle.std.proofs.lemmas.Bool.{cases_lt}
use Rattle.net.specs.Model.{Model, Lawful, Labelled, Outside}

-- two nets answer alike within their range
pub record Agree (m o : Model) : Type 0 where
  pub places : m.places ≡ o.places
  pub transitions : m.transitions ≡ o.transitions
  pub place_labels : (p : ℕ) → p < m.places → m.place_label p ≡ o.place_label p
  pub transition_labels : (t : ℕ) → t < m.transitions → m.transition_label t ≡ o.transition_label t
  pub causes : (t p : ℕ) → t < m.transitions → p < m.places → m.cause t p ≡ o.cause t p
  pub effects : (t p : ℕ) → t < m.transitions → p < m.places → m.effect t p ≡ o.effect t p

-- labels that agree in range agree
pub same_labels : (n k : ℕ) (f g : ℕ → ℕ) → n ≡ k → Labelled n f → Labelled k g → ((i : ℕ) → i < n → f i ≡ g i) → f ≡ g
same_labels n k f g e lf lg inside = fun_ext (λ i. ⊎_elim (λ (h : i < n). inside i h) (λ (h : n ≤ i). lf.1 i h ∙ sym (lg.1 i (omega arith))) (cases_lt i n))

module _ (m o : Model) (places : m.places ≡ o.places) (transitions : m.transitions ≡ o.transitions) where
  -- weights that agree in range agree
  pub same_weights : (f g : ℕ → ℕ → ℕ) → Outside m.places m.transitions f → Outside o.places o.transitions g → ((t p : ℕ) → t < m.transitions → p < m.places → f t p ≡ g t p) → f ≡ g
  same_weights f g wf wg inside = fun_ext (λ t. fun_ext (λ p. ⊎_elim
      (λ (h : t < m.transitions). ⊎_elim (λ (l : p < m.places). inside t p h l)
      (λ (l : m.places ≤ p). wf t p (inl l) ∙ sym (wg t p (inl (omega arith)))) (cases_lt p m.places))
      (λ (h : m.transitions ≤ t). wf t p (inr h) ∙ sym (wg t p (inr (omega arith))))
      (cases_lt t m.transitions)))

-- a net is what it answers
pub same_answers : (m o : Model) → m.places ≡ o.places → m.transitions ≡ o.transitions → m.place_label ≡ o.place_label →
    m.transition_label ≡ o.transition_label → m.cause ≡ o.cause → m.effect ≡ o.effect → m ≡ o
same_answers m o p t l k c e = λ i. record { places = p i; transitions = t i; place_label = l i; transition_label = k i; cause = c i; effect = e i }

pub one_model : (m o : Model) → Lawful m → Lawful o → Agree m o → m ≡ o
one_model m o lm lo a = same_answers m o a.places a.transitions
    (same_labels m.places o.places m.place_label o.place_label a.places lm.place_labels lo.place_labels a.place_labels)
    (same_labels m.transitions o.transitions m.transition_label o.transition_label a.transitions lm.transition_labels lo.transition_labels a.transition_labels)
    (same_weights m o a.places a.transitions m.cause o.cause lm.causes lo.causes a.causes)
    (same_weights m o a.places a.transitions m.effect o.effect lm.effects lo.effects a.effects)
