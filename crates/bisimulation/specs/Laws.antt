-- What is proved of rounds, groups and bisimulation. Assumes nothing.
use Rattle.std.specs.Prelude.{◌≡◌, ℕ, ◌<◌, ◌≤◌, Bool, true}
use Rattle.net.specs.Model.{Model, Lawful}
use Rattle.bisimulation.specs.Groups.{Groups, Equivalence, Equivalences, Within}
use Rattle.bisimulation.specs.Rounds.{group_count, rounds, Stable, rest, final}
use Rattle.bisimulation.specs.Folding.{folded}
use Rattle.bisimulation.specs.Bisimulation.{Bisimulation, Holds, Alike}
use Rattle.bisimulation.specs.Correspondence.{Agree, Corresponding}

-- a congruence: an equivalence that is a structural bisimulation of the net with itself
pub record Congruence (m : Model) (r : Groups) : Type 0 where
  pub equivalences : Equivalences m r
  pub bisimulation : Bisimulation m m (Holds r.same_place) (Holds r.same_transition)

pub record RoundsLaw : Type 0 where
  -- each round is an equivalence
  pub equivalences : (m : Model) (k : ℕ) → Equivalences m (rounds m k)
  -- the rounds come to rest, and the round reported is the least stable one
  pub rests : (m : Model) → Stable m (rounds m (rest m))
  pub least : (m : Model) (k : ℕ) → k < rest m → Stable m (rounds m k) → ⊥
  -- the grouping at rest is a congruence, and contains every congruence
  pub congruence : (m : Model) → Congruence m (final m)
  pub largest : (m : Model) (r : Groups) → Congruence m r → Within m r (final m)
  -- along any structural bisimulation each round of one net is carried to the same round of the other
  pub carried : (m n : Model) (place transition : ℕ → ℕ → Bool) → Bisimulation m n (Holds place) (Holds transition) → (k : ℕ) →
      Agree m n (Holds place) (Holds transition) (rounds m k) (rounds n k)
  -- so alike nets come to rest in the same round
  pub same_rest : (m n : Model) → Alike m n → rest m ≡ rest n
  -- two nets are alike exactly when their groups at rest correspond
  pub corresponds : (m n : Model) → (Corresponding m n → Alike m n) × (Alike m n → Corresponding m n)
  -- at rest, a bag with the counts of a cause in each group is the cause of a transition of the same group
  pub exchange : (m : Model) (b : ℕ → ℕ) (u : ℕ) → u < m.transitions →
      ((g : ℕ) → g < m.places → group_count m.places (final m).same_place (m.cause u) g ≡ group_count m.places (final m).same_place b g) →
      (v : ℕ) × (v < m.transitions) × ((final m).same_transition u v ≡ true) × ((x : ℕ) → x < m.places → m.cause v x ≡ b x)
  -- a marking that has as many tokens in each group holds a bag with just those counts
  pub within : (n : ℕ) (same : ℕ → ℕ → Bool) → Equivalence n same → (marking c : ℕ → ℕ) →
      ((g : ℕ) → g < n → group_count n same c g ≤ group_count n same marking g) →
      (b : ℕ → ℕ) × ((x : ℕ) → x < n → b x ≤ marking x) × ((g : ℕ) → g < n → group_count n same b g ≡ group_count n same c g)
  -- the folded net is lawful, and alike to the net
  pub folded_lawful : (m : Model) → Lawful m → Lawful (folded m)
  pub folded_alike : (m : Model) → Alike (folded m) m
