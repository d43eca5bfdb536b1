-- A net with the seats that arrays hold. Assumes nothing.
use Rattle.std.specs.Prelude.{◌≡◌, ℕ, ◌<◌, List, nat_eq}
use Rattle.finite.specs.Below.{count_below}
use Rattle.finite.specs.Injections.{inverse}
use Rattle.net.specs.Model.{Model}
use Rattle.arrangement.specs.Arrangements.{at}
use Rattle.arrangement.specs.Seats.{Seated}
use Rattle.normal.specs.declared.seats.Seats.{Seats}

abbrev pub seated_by : Model → Seats → Seated
seated_by m s = record {
  net = m;
  place_seat = at s.places.seats;
  transition_seat = at s.transitions.seats;
}

-- the number of the group that a leader leads: how many leaders come before it, that is members that lead themselves
abbrev pub group_number : List ℕ → ℕ → ℕ
group_number leaders leader = count_below leader (λ q. nat_eq (at leaders q) q)

-- the seat of each of the first n members is the position of its group in the order of the groups
abbrev pub SeatsAlong : ℕ → List ℕ → ℕ → List ℕ → List ℕ → Type 0
SeatsAlong n leaders groups order seats = (p : ℕ) → p < n → at seats p ≡ inverse (at order) groups (group_number leaders (at leaders p))
