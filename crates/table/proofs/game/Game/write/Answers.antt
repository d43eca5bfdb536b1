use Rattle.std.proofs.Common.{◌≤◌, subst}
use Rattle.play.specs.Moves.{most_tokens, total}
use Rattle.play.specs.States.{seated}
use Rattle.table.specs.Tables.{sides_in, board_in}
use Rattle.table.proofs.Boards.{write_room}
use Rattle.table.proofs.game.Game.write.Goals as goal

pub hold-requires : goal.hold-requires
hold-requires c =
    let t = c.args.self.now in
    subst (λ w. total (seated (sides_in t) w).net c.args.tokens ≤ most_tokens) c.in-Left.is (write_room (sides_in t) (board_in t) c.args.side c.args.tokens c.args.owed c.requires)

pub hold-requires-in-Right : goal.hold-requires-in-Right
hold-requires-in-Right c =
    let t = c.args.self.now in
    subst (λ w. total (seated (sides_in t) w).net c.args.tokens ≤ most_tokens) c.in-Right.is (write_room (sides_in t) (board_in t) c.args.side c.args.tokens c.args.owed c.requires)
