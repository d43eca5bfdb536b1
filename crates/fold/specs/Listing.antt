-- The leaders of the groups of a division in a list. Assumes nothing.
use Rattle.std.specs.Prelude.{◌≡◌, ℕ, ◌<◌, ◌≤◌, Bool, true, Option, List, length, cond, slice_index, MatchOption}
use Rattle.bisimulation.specs.Leaders.{groups, leader}
use Rattle.fold.specs.declared.division.Division.{Division}
use Rattle.fold.specs.declared.leaders.Leaders.{Leaders}
use Rattle.fold.specs.Together.{together}

-- the number of groups of the numbers below n
abbrev pub NumberOfGroups : (ℕ → ℕ → Bool) → ℕ → ℕ → Type 0
NumberOfGroups same n count = count ≡ groups same n

-- the list begins with the leaders of the first groups of the numbers below n
abbrev pub Lists : (ℕ → ℕ → Bool) → ℕ → ℕ → List ℕ → Type 0
Lists same n count leaders = (g : ℕ) → g < count → slice_index leaders g ≡ leader same n g

-- the leaders of all groups of a division
abbrev pub LeadersOf : {K : _} {MOST : _} → Division K MOST → Leaders K MOST → Type 0
LeadersOf d l = NumberOfGroups (together d.leaders) d.members (length l.listed.items) × Lists (together d.leaders) d.members (length l.listed.items) l.listed.items

-- the node that stands for the one with the number g: of a list of count leaders where the list is read, else that node itself
abbrev pub StandsFor : {K : Type 0} → Bool → ℕ → List ℕ → ℕ → (K → ℕ) → Option K → Type 0
StandsFor listed count leaders g number o = MatchOption o ((listed ≡ true) × (count ≤ g))
    (λ x. (listed ≡ true → g < count) × (number x ≡ cond listed (slice_index leaders g) g))
