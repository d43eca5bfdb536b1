-- An array that is filled from its start, one index after another, and an array of one element.
use Rattle.std.proofs.Common.{◌≡◌, ℕ, zero, suc, ◌+◌, ◌<◌, ◌≤◌, List, length, get_or, set, replicate, sym, ◌∙◌, subst, ⊎_elim, arith, below_more}
use Rattle.std.proofs.lemmas.List.{length-set, length-replicate, get_or-set_same, get_or-set_other}
use Rattle.std.proofs.lemmas.Bool.{cases_lt}
use Rattle.finite.proofs.Tables.{zero_list}

-- Of n elements those before i are done, and the others blank; past the last stands d.
pub record Filled {X : Type 0} (n : ℕ) (d : X) (Done Blank : ℕ → X → Type 0) (i : ℕ) (xs : List X) : Type 0 where
  pub long : length xs ≡ n
  pub done : (k : ℕ) → k < i → Done k (get_or xs k d)
  pub blank : (k : ℕ) → i ≤ k → Blank k (get_or xs k d)

module _ {X : Type 0} {n : ℕ} {d : X} {Done Blank : ℕ → X → Type 0} (i : ℕ) (xs : List X) (h : Filled n d Done Blank i xs) where
  -- the index j is i as another type of number
  pub filled_more : (j : ℕ) (x : X) → j ≡ i → i < n → Done i x → Filled n d Done Blank (i + 1) (set xs j x)
  filled_more j x e l here =
      let other : (k : ℕ) → (k ≡ j → ⊥) → get_or (set xs j x) k d ≡ get_or xs k d = λ k ne. get_or-set_other xs j k x d ne in
      record {
        long = length-set xs j x ∙ h.long;
        done = below_more _ i
            (λ k below. subst (Done k) (sym (other k (λ f. omega arith))) (h.done k below))
            (subst (λ (k : ℕ). Done i (get_or (set xs j x) k d)) e (subst (Done i) (sym (get_or-set_same xs j x d (omega (arith, h.long)))) here));
        blank = λ k past. subst (Blank k) (sym (other k (λ f. omega arith))) (h.blank k (omega arith));
      }

  -- where what is blank from i on is done too, all are done
  pub filled_all : ((k : ℕ) (x : X) → i ≤ k → Blank k x → Done k x) → (k : ℕ) → Done k (get_or xs k d)
  filled_all rest k = ⊎_elim (λ (l : k < i). h.done k l) (λ (l : i ≤ k). rest k (get_or xs k d) l (h.blank k l)) (cases_lt k i)

-- 64 numbers, of which those before i are f's and the others 0
abbrev pub Numbers : (ℕ → ℕ) → ℕ → List ℕ → Type 0
Numbers f i xs = Filled 64 0 (λ k x. x ≡ f k) (λ _ x. x ≡ 0) i xs

pub numbers_none : (f : ℕ → ℕ) → Numbers f 0 (replicate 64 0)
numbers_none f = record { long = length-replicate {A = ℕ} 64 0; done = λ k l. absurd (omega arith); blank = λ k _. zero_list 64 k }

-- where f is 0 from i on, all are f's
pub numbers_all : (f : ℕ → ℕ) (i : ℕ) (xs : List ℕ) → Numbers f i xs → ((k : ℕ) → i ≤ k → f k ≡ 0) → (k : ℕ) → get_or xs k 0 ≡ f k
numbers_all f i xs h past = filled_all i xs h (λ k x l e. e ∙ sym (past k l))

-- an array of one element: what holds of it holds at each index, and past the end of what is read there
pub repeated : {X : Type 0} (P : X → Type 0) (x d : X) → P x → P d → (n k : ℕ) → P (get_or (replicate n x) k d)
repeated P x d here past zero k = past
repeated P x d here past (suc n) zero = here
repeated P x d here past (suc n) (suc k) = repeated P x d here past n k
