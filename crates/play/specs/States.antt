-- A table as plain values: its two seated nets, their markings and what is owed. Assumes nothing.
use Rattle.std.specs.Prelude.{ℕ, Bool, false, List, Some, None, Option}
use Rattle.arrangement.specs.Seats.{Seated}
use Rattle.play.specs.declared.kinds.Side.{Side}
use Rattle.play.specs.declared.kinds.Side.TheVariants.{Left, Right}
use Rattle.play.specs.declared.kinds.Lead.{Lead}
use Rattle.play.specs.Kinds.{same_lead}
use Rattle.play.specs.Moves.{bare}

-- the two sides of a table: what calls do not change
pub record Sides : Type 0 where
  pub left : Seated
  pub right : Seated

-- what calls change: the two markings, and the lead that an answer is owed to, if one is
pub record Board : Type 0 where
  pub left : List ℕ
  pub right : List ℕ
  pub owed : Option Lead

-- a table is closed, or stands open on two sides
pub data State : Type 0 where
  closed : State
  opened : Sides → Board → State

-- newly opened: no tokens, and nothing is owed
abbrev pub bare_board : Sides → Board
bare_board sides = record { left = bare sides.left.net; right = bare sides.right.net; owed = None }

abbrev pub seated : Sides → Side → Seated
seated sides Left = sides.left
seated sides Right = sides.right

abbrev pub marking : Board → Side → List ℕ
marking b Left = b.left
marking b Right = b.right

-- the board with another marking on one side, and with something else owed
abbrev pub with_marking : Board → Side → List ℕ → Option Lead → Board
with_marking b Left tokens owed = record { left = tokens; right = b.right; owed = owed }
with_marking b Right tokens owed = record { left = b.left; right = tokens; owed = owed }

-- whether an answer is owed to this lead: one is owed, and all that is recorded agrees
abbrev pub owes : Option Lead → Lead → Bool
owes None d = false
owes (Some e) d = same_lead e d
