-- Leaders that are listed from the lowest number on.
use Rattle.std.proofs.Common.{◌≡◌, ℕ, ◌+◌, ◌<◌, ◌≤◌, List, [], ◌∷◌, ◌++◌, length, get_or, sym, refl, ap, ◌∙◌, arith, below_more}
use Rattle.std.proofs.lemmas.List.{length_push, get_or_push, get_or_append_left}
use Rattle.finite.specs.Below.{count_below}
use Rattle.finite.proofs.Counts.{count_none, count_yes, count_no}
use Rattle.bisimulation.specs.Leaders.{leads, groups, leader}
use Rattle.bisimulation.proofs.Leaders.{says_leads, says_follows, groups_counted, leader_new}
use Rattle.fold.specs.Images.{by_image}
use Rattle.fold.specs.Together.{together, LowestLead}
use Rattle.fold.specs.Listing.{Lists}

-- of n numbers and their leaders, the leaders below p are listed
pub record Listed (leaders : List ℕ) (n p : ℕ) (listed : List ℕ) : Type 0 where
  pub few : length listed ≤ p
  pub counted : length listed ≡ count_below p (leads (together leaders) n)
  pub lists : Lists (together leaders) n (length listed) listed

module _ (leaders : List ℕ) (n : ℕ) where
  pub listed_none : Listed leaders n 0 []
  listed_none = record {
    few = omega arith;
    counted = sym (count_none (leads (together leaders) n));
    lists = λ g l. absurd (omega arith);
  }

  module _ (p : ℕ) (listed : List ℕ) (h : Listed leaders n p listed) (led : LowestLead n leaders) (l : p < n) where
    -- p leads a group
    pub listed_new : get_or leaders p 0 ≡ p → Listed leaders n (p + 1) (listed ++ p ∷ [])
    listed_new e =
        let leading = says_leads n (together leaders) p (sym (led p l) ∙ e) in
        let long = length_push listed p in
        record {
          few = omega (arith, h.few, long);
          counted = long ∙ ap (λ (x : ℕ). x + 1) h.counted ∙ sym (count_yes p (leads (together leaders) n) leading);
          lists = λ g k.
              below_more (λ i. get_or (listed ++ p ∷ []) i 0 ≡ leader (together leaders) n i) (length listed)
              (λ i j. get_or_append_left listed (p ∷ []) 0 i j ∙ h.lists i j)
              (get_or_push listed p 0 (length listed) refl
              ∙ sym (leader_new n (together leaders) (by_image n (λ i. get_or leaders i 0)) p l leading) ∙ ap (leader (together leaders) n) (sym h.counted))
              g (omega (arith, k, long));
        }

    -- p does not
    pub listed_old : (get_or leaders p 0 ≡ p → ⊥) → Listed leaders n (p + 1) listed
    listed_old ne = record {
      few = omega (arith, h.few);
      counted = h.counted ∙ sym (count_no p (leads (together leaders) n) (says_follows n (together leaders) p (λ e. ne (led p l ∙ e))));
      lists = h.lists;
    }

  pub all_listed : (p : ℕ) (listed : List ℕ) → p ≡ n → Listed leaders n p listed → length listed ≡ groups (together leaders) n
  all_listed p listed e h = h.counted ∙ ap (λ (x : ℕ). count_below x (leads (together leaders) n)) e ∙ sym (groups_counted n (together leaders))
