use Rattle.table.proofs.Opening.{bare_copy, opened_kept, opened_on}
use Rattle.table.proofs.game.Game.between.Goals as goal

pub invariant_of-result : goal.invariant_of-result
invariant_of-result g c =
    let kept = opened_kept (g.L.Net.model c.args.left.now) (g.R.Net.model c.args.right.now) (g.L.Net.lawful c.args.left.now) (g.R.Net.lawful c.args.right.now)
    c.args.left_seats c.args.right_seats c.requires.left_seated c.requires.right_seated c.requires.one_sheet c.new.result c.new-2.result
    (bare_copy _ _ _ _ c.new.ensures.seated c.new.ensures.bare c.copy_of.ensures) (bare_copy _ _ _ _ c.new-2.ensures.seated c.new-2.ensures.bare c.copy_of-2.ensures) in
    record { kept = kept }

pub returns : goal.returns
returns g c =
    opened_on (g.L.Net.model c.args.left.now) (g.R.Net.model c.args.right.now) (g.L.Net.lawful c.args.left.now) (g.R.Net.lawful c.args.right.now)
    c.args.left_seats c.args.right_seats c.requires.left_seated c.requires.right_seated c.requires.one_sheet c.new.result c.new-2.result
    (bare_copy _ _ _ _ c.new.ensures.seated c.new.ensures.bare c.copy_of.ensures) (bare_copy _ _ _ _ c.new-2.ensures.seated c.new-2.ensures.bare c.copy_of-2.ensures)
