-- The groups of an equivalence, numbered in the order of their lowest members.
use Rattle.std.proofs.Common.{◌≡◌, ℕ, ◌<◌, ◌≤◌, Bool, true, false, ◌&&◌, eqb, sym, refl, ap, ◌∙◌, subst, inl, inr, arith}
use Rattle.std.proofs.lemmas.Bool.{and_parts, and_from, cases_lt, both_ways, eqb-true, eq-eqb, ne_eqb}
use Rattle.finite.specs.Below.{count_below}
use Rattle.finite.proofs.Given.{given}
use Rattle.finite.proofs.Tests.{same_test}
use Rattle.finite.proofs.Counts.{count_up, count_most, Nth, nth, nth_one}
use Rattle.finite.proofs.Searches.{Found, first_finds, first_is, first_same}
use Rattle.bisimulation.specs.Groups.{Equivalence}
use Rattle.bisimulation.specs.Leaders.{lowest, leads, groups, group_of, leader}

-- what is found lowest is the lowest
pub lowest_is : (n : ℕ) (same : ℕ → ℕ → Bool) (p q : ℕ) → Found n (λ x. same x p) q → lowest same n p ≡ q
unfolding lowest
lowest_is n same p q f = first_is n (λ x. same x p) q f

pub leads_says : (n : ℕ) (same : ℕ → ℕ → Bool) (p : ℕ) → leads same n p ≡ true → lowest same n p ≡ p
unfolding leads
leads_says n same p h = eqb-true _ _ h

pub says_leads : (n : ℕ) (same : ℕ → ℕ → Bool) (p : ℕ) → lowest same n p ≡ p → leads same n p ≡ true
unfolding leads
says_leads n same p e = eq-eqb _ _ e

pub says_follows : (n : ℕ) (same : ℕ → ℕ → Bool) (p : ℕ) → (lowest same n p ≡ p → ⊥) → leads same n p ≡ false
unfolding leads
says_follows n same p e = ne_eqb _ _ e

pub groups_counted : (n : ℕ) (same : ℕ → ℕ → Bool) → groups same n ≡ count_below n (leads same n)
unfolding groups
groups_counted n same = refl

pub groups_most : (n : ℕ) (same : ℕ → ℕ → Bool) → groups same n ≤ n
unfolding groups
groups_most n same = count_most n (leads same n)

module _ (n : ℕ) (same : ℕ → ℕ → Bool) (E : Equivalence n same) where
  pub lowest_found : (p : ℕ) → p < n → Found n (λ q. same q p) (lowest same n p)
  unfolding lowest
  lowest_found p l = first_finds n (λ q. same q p) p l (E.self p l)

  pub lowest_same : (p q : ℕ) → p < n → q < n → same p q ≡ true → lowest same n p ≡ lowest same n q
  unfolding lowest
  lowest_same p q l k h =
      first_same n (λ x. same x p) (λ x. same x q)
      (λ x j. same_test _ _ (λ e. E.join x p q j l k e h) (λ e. E.join x q p j k l e (E.turn p q l k h)))

  pub lowest_leads : (p : ℕ) → p < n → leads same n (lowest same n p) ≡ true
  lowest_leads p l =
      given (lowest_found p l) λ r.
      says_leads n same _ (lowest_same (lowest same n p) p r.lands l r.passes)

  pub group_nth : (p : ℕ) → p < n → Nth n (leads same n) (group_of same n p) (lowest same n p)
  unfolding group_of
  group_nth p l = record { lands = (lowest_found p l).lands; passes = lowest_leads p l; after = refl }

  pub group_lands : (p : ℕ) → p < n → group_of same n p < groups same n
  unfolding groups
  group_lands p l = given (group_nth p l) λ r. omega (arith, count_up n (leads same n) (lowest same n p) r.lands r.passes, r.after)

  pub group_same : (p q : ℕ) → p < n → q < n → same p q ≡ true → group_of same n p ≡ group_of same n q
  unfolding group_of
  group_same p q l k h = ap (λ (k : ℕ). count_below k (leads same n)) (lowest_same p q l k h)

  pub leader_nth : (g : ℕ) → g < groups same n → Nth n (leads same n) g (leader same n g)
  unfolding leader groups
  leader_nth g l =
      given (nth n (leads same n) g l) λ r.
      given (first_finds n (λ p. leads same n p && eqb (count_below p (leads same n)) g) r.0 r.1.lands (and_from _ _ r.1.passes (eq-eqb _ _ r.1.after))) λ s.
      given (and_parts _ _ s.passes) λ t.
      record { lands = s.lands; passes = t.0; after = eqb-true _ _ t.1 }

  pub leader_lands : (g : ℕ) → g < groups same n → leader same n g < n
  leader_lands g l = (leader_nth g l).lands

  pub leader_lowest : (p : ℕ) → p < n → leader same n (group_of same n p) ≡ lowest same n p
  leader_lowest p l = nth_one n (leads same n) (group_of same n p) _ _ (leader_nth (group_of same n p) (group_lands p l)) (group_nth p l)

  -- each is together with its group's leader
  pub leader_same : (p : ℕ) → p < n → same (leader same n (group_of same n p)) p ≡ true
  leader_same p l = subst (λ x. same x p ≡ true) (sym (leader_lowest p l)) (lowest_found p l).passes

  pub group_leader : (g : ℕ) → g < groups same n → group_of same n (leader same n g) ≡ g
  unfolding group_of
  group_leader g l = given (leader_nth g l) λ r. ap (λ (k : ℕ). count_below k (leads same n)) (leads_says n same (leader same n g) r.passes) ∙ r.after

  pub group_says : (p q : ℕ) → p < n → q < n → group_of same n p ≡ group_of same n q → same p q ≡ true
  group_says p q l k e =
      given (leader_same p l) λ a.
      given (subst (λ x. same (leader same n x) q ≡ true) (sym e) (leader_same q k)) λ b.
      given (leader_lands (group_of same n p) (group_lands p l)) λ j.
      E.join p (leader same n (group_of same n p)) q l j k (E.turn _ p j l a) b

  -- to be in the group g is to be together with its leader
  pub group_test : (p g : ℕ) → p < n → g < groups same n → eqb (group_of same n p) g ≡ same p (leader same n g)
  group_test p g l k =
      same_test _ _
      (λ e. group_says p (leader same n g) l (leader_lands g k) (eqb-true _ _ e ∙ sym (group_leader g k)))
      (λ e. eq-eqb _ _ (group_same p (leader same n g) l (leader_lands g k) e ∙ group_leader g k))

  -- for a loop that fills tables of groups and leaders: p leads a new group, or is in the group of one before it
  pub lowest_le : (p : ℕ) → p < n → lowest same n p ≤ p
  lowest_le p l =
      elim (cases_lt p (lowest same n p)) [ inl k ↦ absurd (both_ways _ ((lowest_found p l).least p k) (E.self p l)) | inr k ↦ k ]

  pub leader_new : (p : ℕ) → p < n → leads same n p ≡ true → leader same n (count_below p (leads same n)) ≡ p
  unfolding groups
  leader_new p l h = nth_one n (leads same n) (count_below p (leads same n)) _ p (leader_nth (count_below p (leads same n)) (count_up n (leads same n) p l h)) (record { lands = l; passes = h; after = refl })
