use Rattle.std.proofs.Common.{◌≤◌, length}
use Rattle.normal.specs.Seatings.{SeatsAlong}
use Rattle.normal.proofs.seats.SeatsOf.along.Given as goal

abbrev pub invariant-loop-p : goal.invariant-loop-p
invariant-loop-p g l = record { room : length l.leaders ≤ length l.seats; along : SeatsAlong l.p l.leaders (length l.standing) l.standing l.seats }
