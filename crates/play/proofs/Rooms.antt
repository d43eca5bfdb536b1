-- Room on a table: each side is within the limit, and a withdrawal takes no token that is not there.
use Rattle.std.proofs.Common.{◌≡◌, ℕ, ◌<◌, ◌≤◌, true, List, Some, None, Option, ap, subst, arith}
use Rattle.arrangement.specs.Arrangements.{at}
use Rattle.arrangement.specs.Seats.{Seated}
use Rattle.play.specs.declared.kinds.Side.{Side}
use Rattle.play.specs.declared.kinds.Side.TheVariants.{Left, Right}
use Rattle.play.specs.declared.kinds.Sort.{Sort}
use Rattle.play.specs.declared.kinds.Lead.{Lead}
use Rattle.play.specs.Moves.{most_tokens, gives, total}
use Rattle.play.specs.States.{Sides, Board, opened, seated, marking, owes}
use Rattle.play.specs.Fairness.{Within}
use Rattle.play.specs.Invariant.{Ahead, AheadOn, SoundWith, Kept}
use Rattle.play.proofs.Markings.{moved_gives}
use Rattle.play.proofs.Leads.{owes_is}
use Rattle.play.proofs.Kept.{board_of}

-- neither side of a sound table passes the limit
sound_within : (sides : Sides) (l r : List ℕ) (o : Option Lead) → SoundWith sides l r o → Within (opened sides (board_of l r o))
sound_within sides l r None h = (h.room, h.other_room)
sound_within sides l r (Some d) h = by d.side d.sort d.number d.seat.0 h
  where
    by : (w : Side) (k : Sort) (i seat : ℕ) → AheadOn sides l r w k i seat → Within (opened sides (board_of l r (Some d)))
    by Left k i seat h = (h.room, h.even.other_room)
    by Right k i seat h = (h.even.other_room, h.room)

-- so it is at all times
pub kept_within : (sides : Sides) (b : Board) → Kept sides b → Within (opened sides b)
kept_within sides b h = sound_within sides b.left b.right b.owed h.sound

-- nor does whichever side is named
pub kept_room : (sides : Sides) (b : Board) (w : Side) → Kept sides b → total (seated sides w).net (marking b w) ≤ most_tokens
kept_room sides b Left h = (kept_within sides b h).0
kept_room sides b Right h = (kept_within sides b h).1

-- what is owed is a lead since which a side is ahead
owed_ahead : (sides : Sides) (b : Board) (d : Lead) → Kept sides b → owes b.owed d ≡ true → AheadOn sides b.left b.right d.side d.sort d.number d.seat.0
owed_ahead sides b d h is = subst (SoundWith sides b.left b.right) (owes_is b.owed d is) h.sound

-- each place has what the lead gave it
gave : (s u : Seated) (m n : List ℕ) (k : Sort) (i seat : ℕ) → Ahead s u m n k i seat → (x : ℕ) → x < s.net.places → gives s.net k i x ≤ at m x
gave s u m n k i seat h x l = omega (arith, moved_gives s.net h.before k i x l, ap (λ (v : List ℕ). at v x) h.after)

-- the same of whichever side led
ahead_gave : (sides : Sides) (b : Board) (w : Side) (k : Sort) (i seat : ℕ) → AheadOn sides b.left b.right w k i seat → (x : ℕ) → x < (seated sides w).net.places → gives (seated sides w).net k i x ≤ at (marking b w) x
ahead_gave sides b Left k i seat h = gave sides.left sides.right b.left b.right k i seat h
ahead_gave sides b Right k i seat h = gave sides.right sides.left b.right b.left k i seat h

-- each place of the side that led has what the lead gave it
pub withdraw_gave : (sides : Sides) (b : Board) (d : Lead) → Kept sides b → owes b.owed d ≡ true →
    (x : ℕ) → x < (seated sides d.side).net.places → gives (seated sides d.side).net d.sort d.number x ≤ at (marking b d.side) x
withdraw_gave sides b d h is = ahead_gave sides b d.side d.sort d.number d.seat.0 (owed_ahead sides b d h is)
