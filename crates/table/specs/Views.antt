-- What the sides of a table are as plain values. Assumes nothing.
use Rattle.std.specs.Prelude.{ℕ, ◌+◌, ◌-◌, ◌<◌, ◌≤◌, List, take, Option}
use Rattle.net.specs.Model.{Model}
use Rattle.net.specs.Bags.{other_bag}
use Rattle.net.specs.declared.bag.Bag.{Bag}
use Rattle.net.specs.declared.bag.Bag.TheVariants.{Cause, Effect}
use Rattle.drawing.specs.Drawn.{drawn}
use Rattle.arrangement.specs.Arrangements.{at}
use Rattle.arrangement.specs.Seats.{Seated}
use Rattle.normal.specs.Seatings.{seated_by}
use Rattle.play.specs.declared.kinds.Sort.{Sort}
use Rattle.play.specs.declared.kinds.Lead.{Lead}
use Rattle.play.specs.Moves.{takes, gives, moved, undone}
use Rattle.play.specs.States.{Sides, Board}
use Rattle.table.specs.declared.half.Half.{Half}

-- the net of a side
abbrev pub net_of : Half → Model
net_of h = drawn h.net

-- the net with its seats
abbrev pub seated_of : Half → Seated
seated_of h = seated_by (net_of h) h.seats

-- the tokens on its places
abbrev pub held : Half → List ℕ
held h = take (net_of h).places h.tokens

-- two sides, and what changes on them
abbrev pub sides_of : Half → Half → Sides
sides_of l r = record { left = seated_of l; right = seated_of r }

abbrev pub board_of : Half → Half → Option Lead → Board
board_of l r owed = record { left = held l; right = held r; owed = owed }

-- The bags of a move: its cause is what it takes from the place x, and its effect what it gives.
abbrev pub weight_of : Model → Bag → Sort → ℕ → ℕ → ℕ
weight_of m Cause k i x = takes m k i x
weight_of m Effect k i x = gives m k i x

-- each place holds at least what the bag has there
abbrev pub CoversBag : Model → List ℕ → Bag → Sort → ℕ → Type 0
CoversBag m tokens bag k i = (x : ℕ) → x < m.places → weight_of m bag k i x ≤ at tokens x

-- the tokens on the place x after one bag is taken off and the other is put on
abbrev pub count_after : Model → List ℕ → Bag → Sort → ℕ → ℕ → ℕ
count_after m tokens off k i x = at tokens x - weight_of m off k i x + weight_of m (other_bag off) k i x

-- and all tokens after it: a move takes its cause off, and to undo one takes its effect off
abbrev pub shifted : Model → List ℕ → Bag → Sort → ℕ → List ℕ
shifted m tokens Cause k i = moved m tokens k i
shifted m tokens Effect k i = undone m tokens k i
