-- What each test of a round says, in both directions.
use Rattle.std.proofs.Common.{◌≡◌, ℕ, ◌+◌, ◌<◌, ◌≤◌, Bool, true, not, ◌&&◌, ◌||◌, ltb, ◌⊎◌, inl, inr, ⊎_elim}
use Rattle.std.proofs.lemmas.Bool.{and_parts, and_from, or_cases, or_left, or_right, cases_lt, cases_Bool, both_ways, eqb-true, eq-eqb, lt-ltb, le-ltb, not-true, not_from_false}
use Rattle.finite.specs.Below.{any_below}
use Rattle.finite.proofs.Tests.{all_at, all_from, any_at, any_from}
use Rattle.net.specs.Model.{Model}
use Rattle.bisimulation.specs.Groups.{Groups}
use Rattle.bisimulation.specs.Rounds.{unit, group_count, replaces, exchanges, same_counts, refine, Stable, keeps, stable}

-- u's cause is t's with one p replaced by one q
abbrev pub Replaces : Model → ℕ → ℕ → ℕ → ℕ → Type 0
Replaces m p q t u = (x : ℕ) → x < m.places → m.cause u x + unit p x ≡ m.cause t x + unit q x

abbrev pub Exchanges : Model → Groups → ℕ → ℕ → Type 0
Exchanges m r p q =
    (t : ℕ) →
    t < m.transitions →
    0 < m.cause t p →
    (u : ℕ) × (u < m.transitions) × (r.same_transition t u ≡ true) × Replaces m p q t u

abbrev pub SameCounts : Model → Groups → (ℕ → ℕ) → (ℕ → ℕ) → Type 0
SameCounts m r a b = (g : ℕ) → g < m.places → group_count m.places r.same_place a g ≡ group_count m.places r.same_place b g

pub replaces_says : (m : Model) (p q t u : ℕ) → replaces m p q t u ≡ true → Replaces m p q t u
unfolding replaces
replaces_says m p q t u h x l = eqb-true _ _ (all_at m.places _ h x l)

pub says_replaces : (m : Model) (p q t u : ℕ) → Replaces m p q t u → replaces m p q t u ≡ true
unfolding replaces
says_replaces m p q t u h = all_from m.places _ (λ x l. eq-eqb _ _ (h x l))

pub exchanges_says : (m : Model) (r : Groups) (p q : ℕ) → exchanges m r p q ≡ true → Exchanges m r p q
unfolding exchanges
exchanges_says m r p q h t l w = at (or_cases _ _ (all_at m.transitions _ h t l))
  where
    Found : Type 0
    Found = (u : ℕ) × (u < m.transitions) × (r.same_transition t u ≡ true) × Replaces m p q t u

    at : ((not (ltb 0 (m.cause t p)) ≡ true) ⊎ (any_below m.transitions (λ u. r.same_transition t u && replaces m p q t u) ≡ true)) → Found
    at (inl e) = absurd (both_ways _ (not-true _ e) (lt-ltb 0 (m.cause t p) w))
    at (inr e) =
        let f = any_at m.transitions _ e in
        let s = and_parts _ _ f.2 in
        (f.0, f.1, s.0, replaces_says m p q t f.0 s.1)

pub says_exchanges : (m : Model) (r : Groups) (p q : ℕ) → Exchanges m r p q → exchanges m r p q ≡ true
unfolding exchanges
says_exchanges m r p q h = all_from m.transitions _ (λ t l. at t l (cases_lt 0 (m.cause t p)))
  where
    at : (t : ℕ) → t < m.transitions → (0 < m.cause t p) ⊎ (m.cause t p ≤ 0) → (not (ltb 0 (m.cause t p)) || any_below m.transitions (λ u. r.same_transition t u && replaces m p q t u)) ≡ true
    at t l (inl w) =
        let f = h t l w in
        or_right _ _ (any_from m.transitions _ f.0 f.1 (and_from _ _ f.2 (says_replaces m p q t f.0 f.3)))
    at t l (inr w) = or_left _ _ (not_from_false _ (le-ltb 0 (m.cause t p) w))

pub counts_say : (m : Model) (r : Groups) (a b : ℕ → ℕ) → same_counts m r a b ≡ true → SameCounts m r a b
unfolding same_counts
counts_say m r a b h g l = eqb-true _ _ (all_at m.places _ h g l)

pub say_counts : (m : Model) (r : Groups) (a b : ℕ → ℕ) → SameCounts m r a b → same_counts m r a b ≡ true
unfolding same_counts
say_counts m r a b h = all_from m.places _ (λ g l. eq-eqb _ _ (h g l))

-- two places are together in the next round
pub record PlaceStep (m : Model) (r : Groups) (p q : ℕ) : Type 0 where
  pub before : r.same_place p q ≡ true
  pub there : Exchanges m r p q
  pub return : Exchanges m r q p

pub record TransitionStep (m : Model) (r : Groups) (t u : ℕ) : Type 0 where
  pub before : r.same_transition t u ≡ true
  pub causes : SameCounts m r (m.cause t) (m.cause u)
  pub effects : SameCounts m r (m.effect t) (m.effect u)

pub place_says : (m : Model) (r : Groups) (p q : ℕ) → (refine m r).same_place p q ≡ true → PlaceStep m r p q
unfolding refine
place_says m r p q h =
    let a = and_parts _ _ h in
    let b = and_parts _ _ a.1 in
    record { before = a.0; there = exchanges_says m r p q b.0; return = exchanges_says m r q p b.1 }

pub says_place : (m : Model) (r : Groups) (p q : ℕ) → PlaceStep m r p q → (refine m r).same_place p q ≡ true
unfolding refine
says_place m r p q s =
    and_from _ _ s.before (and_from _ _ (says_exchanges m r p q s.there) (says_exchanges m r q p s.return))

pub transition_says : (m : Model) (r : Groups) (t u : ℕ) → (refine m r).same_transition t u ≡ true → TransitionStep m r t u
unfolding refine
transition_says m r t u h =
    let a = and_parts _ _ h in
    let b = and_parts _ _ a.1 in
    record { before = a.0; causes = counts_say m r _ _ b.0; effects = counts_say m r _ _ b.1 }

pub says_transition : (m : Model) (r : Groups) (t u : ℕ) → TransitionStep m r t u → (refine m r).same_transition t u ≡ true
unfolding refine
says_transition m r t u s =
    and_from _ _ s.before (and_from _ _ (say_counts m r _ _ s.causes) (say_counts m r _ _ s.effects))

keeps_says : (n : ℕ) (old new : ℕ → ℕ → Bool) → keeps n old new ≡ true → (a b : ℕ) → a < n → b < n → old a b ≡ true → new a b ≡ true
keeps_says n old new h a b l k e =
    ⊎_elim (λ f. absurd (both_ways _ (not-true _ f) e)) (λ f. f) (or_cases _ _ (all_at n _ (all_at n _ h a l) b k))

says_keeps : (n : ℕ) (old new : ℕ → ℕ → Bool) → ((a b : ℕ) → a < n → b < n → old a b ≡ true → new a b ≡ true) → keeps n old new ≡ true
says_keeps n old new h =
    all_from n _ (λ a l. all_from n _ (λ b k. ⊎_elim (λ e. or_right _ _ (h a b l k e)) (λ e. or_left _ _ (not_from_false _ e)) (cases_Bool (old a b))))

pub stable_says : (m : Model) (r : Groups) → stable m r ≡ true → Stable m r
unfolding stable
stable_says m r h =
    let a = and_parts _ _ h in
    record { on_places = keeps_says m.places r.same_place _ a.0; on_transitions = keeps_says m.transitions r.same_transition _ a.1 }

pub says_stable : (m : Model) (r : Groups) → Stable m r → stable m r ≡ true
unfolding stable
says_stable m r h = and_from _ _ (says_keeps m.places r.same_place _ h.on_places) (says_keeps m.transitions r.same_transition _ h.on_transitions)
