-- Groups that are formed from the lowest number on.
use Rattle.std.proofs.Common.{◌≡◌, ℕ, ◌+◌, ◌<◌, ◌≤◌, Bool, true, List, length, get_or, set, replicate, sym, ap, ◌∙◌, subst, inl, inr, arith, length-set, below_more}
use Rattle.std.proofs.lemmas.List.{get_or-set_same, get_or-set_other, length-replicate}
use Rattle.std.proofs.lemmas.Bool.{cases_eq, eqb-true, eq-eqb}
use Rattle.finite.specs.Below.{count_below}
use Rattle.finite.proofs.Given.{given}
use Rattle.finite.proofs.Tables.{zero_list}
use Rattle.finite.proofs.Tests.{same_test}
use Rattle.finite.proofs.Counts.{count_none, count_yes, count_no}
use Rattle.bisimulation.specs.Groups.{Equivalence}
use Rattle.bisimulation.specs.Leaders.{lowest, leads, groups}
use Rattle.bisimulation.proofs.Leaders.{says_leads, says_follows, groups_counted, lowest_found, lowest_same, lowest_le}
use Rattle.bisimulation.proofs.Ranges.{lowest_like}
use Rattle.fold.specs.Together.{together, LowestLead}

-- the numbers below p are done: their leaders stand in the list, and their groups are counted
pub record Formed (same : ℕ → ℕ → Bool) (n most p count : ℕ) (leaders : List ℕ) : Type 0 where
  pub long : length leaders ≡ most
  pub few : count ≤ p
  pub counted : count ≡ count_below p (leads same n)
  pub lead : (j : ℕ) → j < p → get_or leaders j 0 ≡ lowest same n j
  pub low : (j : ℕ) → get_or leaders j 0 ≤ j

-- numbers with the same lowest member are together, and no others
pub leaders_tell : (n : ℕ) (same : ℕ → ℕ → Bool) → Equivalence n same → (leaders : List ℕ) → ((p : ℕ) → p < n → get_or leaders p 0 ≡ lowest same n p) →
    (p q : ℕ) → p < n → q < n → together leaders p q ≡ same p q
leaders_tell n same E leaders is p q l k = same_test _ _
    (λ h.
    given (lowest_found n same E p l) λ f.
    given (lowest_found n same E q k) λ g.
    given (sym (is p l) ∙ eqb-true (get_or leaders p 0) (get_or leaders q 0) h ∙ is q k) λ e.
    E.join p (lowest same n p) q l f.lands k (E.turn _ p f.lands l f.passes) (subst (λ (x : ℕ). same x q ≡ true) (sym e) g.passes))
    (λ h. eq-eqb (get_or leaders p 0) (get_or leaders q 0) (is p l ∙ lowest_same n same E p q l k h ∙ sym (is q k)))

module _ (same : ℕ → ℕ → Bool) (n most : ℕ) where
  pub formed_none : Formed same n most 0 0 (replicate most 0)
  formed_none = record {
    long = length-replicate most 0;
    few = omega arith;
    counted = sym (count_none (leads same n));
    lead = λ j l. absurd (omega arith);
    low = λ j. omega (arith, zero_list most j);
  }

  module _ (E : Equivalence n same) (p count leader : ℕ) (leaders : List ℕ) (h : Formed same n most p count leaders) (l : p < n) (room : p < most) (is : leader ≡ lowest same n p) where
    at : get_or (set leaders p leader) p 0 ≡ leader
    at = get_or-set_same leaders p leader 0 (omega (arith, h.long))

    other : (j : ℕ) → (j ≡ p → ⊥) → get_or (set leaders p leader) j 0 ≡ get_or leaders j 0
    other j ne = get_or-set_other leaders p j leader 0 ne

    -- what is written
    write : (next : ℕ) → next ≤ p + 1 → next ≡ count_below (p + 1) (leads same n) → Formed same n most (p + 1) next (set leaders p leader)
    write next few counted = record {
      long = length-set leaders p leader ∙ h.long;
      few = few;
      counted = counted;
      lead = below_more (λ j. get_or (set leaders p leader) j 0 ≡ lowest same n j) p (λ j k. other j (λ e. omega arith) ∙ h.lead j k) (at ∙ is);
      low = λ j.
          elim (cases_eq j p) [
            | inl e ↦ subst (λ (i : ℕ). get_or (set leaders p leader) i 0 ≤ i) (sym e) (omega (arith, at, is, lowest_le n same E p l))
            | inr ne ↦ omega (arith, other j ne, h.low j)
          ];
    }

    -- p leads a new group
    pub formed_new : leader ≡ p → Formed same n most (p + 1) (count + 1) (set leaders p leader)
    formed_new e = write (count + 1) (omega (arith, h.few))
        (ap (λ (x : ℕ). x + 1) h.counted ∙ sym (count_yes p (leads same n) (says_leads n same p (sym is ∙ e))))

    -- p joins a group
    pub formed_old : (leader ≡ p → ⊥) → Formed same n most (p + 1) count (set leaders p leader)
    formed_old ne = write count (omega (arith, h.few))
        (h.counted ∙ sym (count_no p (leads same n) (says_follows n same p (λ e. ne (is ∙ e)))))

  pub all_formed : (p count : ℕ) (leaders : List ℕ) → p ≡ n → Formed same n most p count leaders → count ≡ groups same n
  all_formed p count leaders e h = h.counted ∙ ap (λ (x : ℕ). count_below x (leads same n)) e ∙ sym (groups_counted n same)

-- leaders that are lowest by a test are lowest among those that they are together with
pub formed_led : (same : ℕ → ℕ → Bool) (n : ℕ) → Equivalence n same → (leaders : List ℕ) → ((p : ℕ) → p < n → get_or leaders p 0 ≡ lowest same n p) → LowestLead n leaders
formed_led same n E leaders is p l = is p l ∙ sym (lowest_like n (together leaders) same (leaders_tell n same E leaders is) p l)
