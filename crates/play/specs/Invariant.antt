-- What a table keeps at all times: both nets sit on one net, and the sides are even but for the lead that is owed an answer.
-- Assumes nothing.
use Rattle.std.specs.Prelude.{◌≡◌, ℕ, ◌<◌, ◌≤◌, true, List, length, Some, None, Option}
use Rattle.net.specs.Model.{Model}
use Rattle.arrangement.specs.Arrangements.{at}
use Rattle.arrangement.specs.Seats.{Seated, seat_tokens, Sits}
use Rattle.play.specs.declared.kinds.Side.{Side}
use Rattle.play.specs.declared.kinds.Side.TheVariants.{Left, Right}
use Rattle.play.specs.declared.kinds.Sort.{Sort}
use Rattle.play.specs.declared.kinds.Lead.{Lead}
use Rattle.play.specs.Moves.{most_tokens, numbers, seat_of, covers, moved, total}
use Rattle.play.specs.States.{Sides, Board}

-- as many tokens on each seat
pub record Even (s u : Seated) (m n : List ℕ) : Type 0 where
  pub long : length m ≡ s.net.places
  pub other_long : length n ≡ u.net.places
  pub room : total s.net m ≤ most_tokens
  pub other_room : total u.net n ≤ most_tokens
  pub tokens : (k : ℕ) → seat_tokens s (at m) k ≡ seat_tokens u (at n) k

-- the sides were even, and s has since led
pub record Ahead (s u : Seated) (m n : List ℕ) (k : Sort) (i seat : ℕ) : Type 0 where
  pub before : List ℕ
  pub even : Even s u before n
  pub there : i < numbers s.net k
  pub its_seat : seat ≡ seat_of s k i
  pub covered : covers s.net before k i ≡ true
  pub after : m ≡ moved s.net before k i
  pub room : total s.net m ≤ most_tokens

abbrev pub AheadOn : Sides → List ℕ → List ℕ → Side → Sort → ℕ → ℕ → Type 0
AheadOn sides l r Left k i seat = Ahead sides.left sides.right l r k i seat
AheadOn sides l r Right k i seat = Ahead sides.right sides.left r l k i seat

abbrev pub SoundWith : Sides → List ℕ → List ℕ → Option Lead → Type 0
SoundWith sides l r None = Even sides.left sides.right l r
SoundWith sides l r (Some d) = AheadOn sides l r d.side d.sort d.number d.seat.0

abbrev pub Sound : Sides → Board → Type 0
Sound sides b = SoundWith sides b.left b.right b.owed

pub record Kept (sides : Sides) (b : Board) : Type 0 where
  pub net : Model
  pub left : Sits net sides.left
  pub right : Sits net sides.right
  pub sound : Sound sides b
