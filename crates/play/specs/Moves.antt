-- Moves on one seated net: what they take and give, and the tokens after them. Assumes nothing.
use Rattle.std.specs.Prelude.{ℕ, ◌+◌, ◌-◌, Bool, List, nat_le}
use Rattle.finite.specs.Below.{sum_below, all_below}
use Rattle.finite.specs.Injections.{tabulate}
use Rattle.net.specs.Model.{Model}
use Rattle.bisimulation.specs.Rounds.{unit}
use Rattle.arrangement.specs.Arrangements.{at}
use Rattle.arrangement.specs.Seats.{Seated}
use Rattle.play.specs.declared.kinds.Sort.{Sort}
use Rattle.play.specs.declared.kinds.Sort.TheVariants.{Put, Take, Fire}

-- the most tokens that a side holds
abbrev pub most_tokens : ℕ
most_tokens = 1000000

-- how many numbers there are to move with: places to put on and take from, transitions to fire
abbrev pub numbers : Model → Sort → ℕ
numbers m Put = m.places
numbers m Take = m.places
numbers m Fire = m.transitions

-- the seat of what a move names
abbrev pub seat_of : Seated → Sort → ℕ → ℕ
seat_of s Put i = s.place_seat i
seat_of s Take i = s.place_seat i
seat_of s Fire i = s.transition_seat i

-- how many tokens a move takes from the place x, and gives it
abbrev pub takes : Model → Sort → ℕ → ℕ → ℕ
takes m Put i x = 0
takes m Take i x = unit i x
takes m Fire i x = m.cause i x

abbrev pub gives : Model → Sort → ℕ → ℕ → ℕ
gives m Put i x = unit i x
gives m Take i x = 0
gives m Fire i x = m.effect i x

-- A marking is the list of the tokens on each place. Whether it lacks no token that the move takes:
unfoldable pub covers : Model → List ℕ → Sort → ℕ → Bool
covers m marking k i = all_below m.places (λ x. nat_le (takes m k i x) (at marking x))

-- the marking after the move, and the one before it
unfoldable pub moved : Model → List ℕ → Sort → ℕ → List ℕ
moved m marking k i = tabulate (λ x. at marking x - takes m k i x + gives m k i x) m.places

unfoldable pub undone : Model → List ℕ → Sort → ℕ → List ℕ
undone m marking k i = tabulate (λ x. at marking x - gives m k i x + takes m k i x) m.places

-- all tokens of a marking
abbrev pub total : Model → List ℕ → ℕ
total m marking = sum_below m.places (at marking)

-- no tokens
abbrev pub bare : Model → List ℕ
bare m = tabulate (λ _. 0) m.places
