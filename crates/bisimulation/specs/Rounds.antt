-- The rounds of folding: what is together in round 0, and what a round parts. Assumes nothing.
use Rattle.std.specs.Prelude.{ℕ, zero, suc, ◌+◌, ◌*◌, Bool, cond, not, ◌&&◌, ◌||◌, ◌==◌, nat_eq, nat_lt}
use Rattle.finite.specs.Below.{sum_below, all_below, any_below, first_below}
use Rattle.net.specs.Model.{Model}
use Rattle.bisimulation.specs.Groups.{Groups, Within}

-- the bag that holds place a once
unfoldable pub unit : ℕ → ℕ → ℕ
unit a x = cond (a == x) 1 0

-- how many tokens of the bag lie in g's group, of n places
unfoldable pub group_count : ℕ → (ℕ → ℕ → Bool) → (ℕ → ℕ) → ℕ → ℕ
group_count n same bag g = sum_below n (λ p. cond (same p g) (bag p) 0)

-- u's cause is t's with one p replaced by one q
unfoldable pub replaces : Model → ℕ → ℕ → ℕ → ℕ → Bool
replaces m p q t u = all_below m.places (λ x. nat_eq (m.cause u x + unit p x) (m.cause t x + unit q x))

-- the exchange from p to q: each transition whose cause has p is together with one that has one q in place of one p
unfoldable pub exchanges : Model → Groups → ℕ → ℕ → Bool
exchanges m r p q =
    all_below m.transitions (λ t. not (nat_lt 0 (m.cause t p)) || any_below m.transitions (λ u. r.same_transition t u && replaces m p q t u))

-- two bags have equally many tokens in each group of places
unfoldable pub same_counts : Model → Groups → (ℕ → ℕ) → (ℕ → ℕ) → Bool
same_counts m r a b = all_below m.places (λ g. nat_eq (group_count m.places r.same_place a g) (group_count m.places r.same_place b g))

-- the next round
unfoldable pub refine : Model → Groups → Groups
refine m r = record {
  same_place = λ p q. r.same_place p q && (exchanges m r p q && exchanges m r q p);
  same_transition = λ t u. r.same_transition t u && (same_counts m r (m.cause t) (m.cause u) && same_counts m r (m.effect t) (m.effect u));
}

-- two places, and two transitions, are together at the start when their labels are equal
abbrev pub label_groups : Model → Groups
label_groups m = record {
  same_place = λ p q. (m.place_label p == m.place_label q);
  same_transition = λ t u. (m.transition_label t == m.transition_label u);
}

unfoldable pub rounds : Model → ℕ → Groups
rounds m zero = label_groups m
rounds m (suc k) = refine m (rounds m k)

-- a grouping is stable: the next round parts nothing
abbrev pub Stable : Model → Groups → Type 0
Stable m r = Within m r (refine m r)

-- the same, as a test
abbrev pub keeps : ℕ → (ℕ → ℕ → Bool) → (ℕ → ℕ → Bool) → Bool
keeps n old new = all_below n (λ a. all_below n (λ b. not (old a b) || new a b))

unfoldable pub stable : Model → Groups → Bool
stable m r = keeps m.places r.same_place (refine m r).same_place && keeps m.transitions r.same_transition (refine m r).same_transition

-- the number of rounds that part something: the least stable round
unfoldable pub rest : Model → ℕ
rest m = first_below (m.places * m.places + m.transitions * m.transitions) (λ k. stable m (rounds m k))

-- the groups at rest
unfoldable pub final : Model → Groups
final m = rounds m (rest m)
