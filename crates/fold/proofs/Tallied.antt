-- Tokens that are counted at the leaders of their places.
use Rattle.std.proofs.Common.{◌≡◌, ℕ, ◌+◌, ◌*◌, ◌<◌, ◌≤◌, cond, eqb, List, length, get_or, set, sym, ap, ◌∙◌, subst, ⊎_elim, arith, length-set}
use Rattle.std.proofs.lemmas.List.{get_or-set_same, get_or-set_other}
use Rattle.std.proofs.lemmas.Bool.{cases_eq, eq-eqb, ne_eqb, cond-true, cond-false}
use Rattle.finite.specs.Below.{sum_below}
use Rattle.finite.proofs.Sums.{sum_none, sum_more}
use Rattle.bisimulation.specs.Rounds.{group_count}

-- the tokens of the bag below p that lie in the group with the leader l
abbrev pub led : (ℕ → ℕ) → (ℕ → ℕ) → ℕ → ℕ → ℕ
led lead bag l x = cond (eqb (lead x) l) (bag x) 0

-- the places below p are counted
pub record Tallied (lead bag : ℕ → ℕ) (p : ℕ) (counts : List ℕ) : Type 0 where
  pub long : length counts ≡ 64
  pub each : (l : ℕ) → l < 64 → get_or counts l 0 ≡ sum_below p (led lead bag l)
  pub small : (l : ℕ) → l < 64 → get_or counts l 0 ≤ 255 * p

module _ (lead bag : ℕ → ℕ) where
  pub tallied_none : (counts : List ℕ) → length counts ≡ 64 → ((l : ℕ) → get_or counts l 0 ≡ 0) → Tallied lead bag 0 counts
  tallied_none counts long zeros = record {
    long = long;
    each = λ l h. zeros l ∙ sym (sum_none (led lead bag l));
    small = λ l h. omega (arith, zeros l);
  }

  module _ (p w : ℕ) (counts : List ℕ) (h : Tallied lead bag p counts) (room : lead p < 64) (is : w ≡ bag p) (low : w < 256) where
    next : List ℕ
    next = set counts (lead p) (get_or counts (lead p) 0 + w)

    here : (l : ℕ) → lead p ≡ l → get_or next l 0 ≡ get_or counts l 0 + w
    unfolding next
    here l e = subst (λ (k : ℕ). get_or next k 0 ≡ get_or counts k 0 + w) e (get_or-set_same counts (lead p) (get_or counts (lead p) 0 + w) 0 (omega (arith, h.long)))

    other : (l : ℕ) → (lead p ≡ l → ⊥) → get_or next l 0 ≡ get_or counts l 0
    unfolding next
    other l ne = get_or-set_other counts (lead p) l (get_or counts (lead p) 0 + w) 0 (λ e. ne (sym e))

    more : (l : ℕ) → l < 64 → get_or next l 0 ≡ sum_below (p + 1) (led lead bag l)
    more l k = ⊎_elim
        (λ (e : lead p ≡ l). omega (arith, here l e, h.each l k, is, sum_more p (led lead bag l), cond-true (eqb (lead p) l) (bag p) 0 (eq-eqb _ _ e)))
        (λ (ne : lead p ≡ l → ⊥). omega (arith, other l ne, h.each l k, sum_more p (led lead bag l), cond-false (eqb (lead p) l) (bag p) 0 (ne_eqb _ _ ne)))
        (cases_eq (lead p) l)

    fits : (l : ℕ) → l < 64 → get_or next l 0 ≤ 255 * (p + 1)
    fits l k = ⊎_elim
        (λ (e : lead p ≡ l). omega (arith, here l e, h.small l k))
        (λ (ne : lead p ≡ l → ⊥). omega (arith, other l ne, h.small l k))
        (cases_eq (lead p) l)

    -- counted at an index that is p's leader
    pub tallied_more : (i : ℕ) → i ≡ lead p → Tallied lead bag (p + 1) (set counts i (get_or counts i 0 + w))
    unfolding next
    tallied_more i e = rw e (record { long = length-set counts (lead p) (get_or counts (lead p) 0 + w) ∙ h.long; each = more; small = fits })

  -- the count of g's group
  pub tallied_all : (p n : ℕ) (counts : List ℕ) {g : ℕ} → p ≡ n → Tallied lead bag p counts → lead g < 64 →
      get_or counts (lead g) 0 ≡ group_count n (λ x y. eqb (lead x) (lead y)) bag g
  unfolding group_count
  tallied_all p n counts {g} e h room = h.each (lead g) room ∙ ap (λ (k : ℕ). sum_below k (led lead bag (lead g))) e
