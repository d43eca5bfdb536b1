-- What a table is as a plain value, and what its calls hand out. Assumes nothing.
use Rattle.std.specs.Prelude.{◌≡◌, Some, None, Ok, Err, Option, Result}
use Rattle.play.specs.declared.kinds.Side.{Side}
use Rattle.play.specs.declared.kinds.Side.TheVariants.{Left, Right}
use Rattle.play.specs.declared.kinds.Lead.{Lead}
use Rattle.play.specs.States.{Sides, Board, State, closed, opened}
use Rattle.table.specs.Views.{sides_of, board_of}
use Rattle.table.specs.declared.due.Due.{Due}
use Rattle.table.specs.declared.half.Half.{Half}
use Rattle.table.specs.declared.game.Game.{Game}
use Rattle.table.specs.declared.table.Table.{Table}

-- the half on a side
abbrev pub half_on : Game → Side → Half
half_on g Left = g.left
half_on g Right = g.right

-- the sides of a game and its board
abbrev pub sides_in : Game → Sides
sides_in g = sides_of g.left g.right

abbrev pub board_in : Game → Board
board_in g = board_of g.left g.right g.owed

-- a table with a game is open, and one without is closed
abbrev pub state_in : Game → State
state_in g = opened (sides_in g) (board_in g)

abbrev pub state_by : Option Game → State
state_by None = closed
state_by (Some g) = state_in g

abbrev pub state_of : Table → State
state_of t = state_by t.game

-- an accepted lead hands out the due that records it
abbrev pub handed : {E : Type 0} → Result Lead E → Result Due E
handed (Ok d) = Ok (record { lead = d })
handed (Err e) = Err e

-- an accepted call spends the due, and a refused one hands that due back
abbrev pub handed_back : {T E : Type 0} → Due → Result T E → Result T (E × Due)
handed_back due (Ok x) = Ok x
handed_back due (Err e) = Err (e, due)

-- a refused call leaves the table, or its game, as it was
abbrev pub AsBefore : {T E S : Type 0} → Result T E → S → S → Type 0
AsBefore (Ok _) old new = Unit {0}
AsBefore (Err _) old new = new ≡ old
