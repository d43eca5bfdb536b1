use Rattle.std.proofs.Common.{sym, ◌∙◌, arith}
use Rattle.finite.proofs.Tables.{joined_cong}
use Rattle.net.specs.Model.{Model}
use Rattle.drawing.specs.Arrays.{model_of}
use Rattle.arrangement.proofs.Positions.{row_length}
use Rattle.search.proofs.Comparing.{joined_compares, compares_as}
use Rattle.search.proofs.ranking.Ranking.compare.Goals as goal

pub returns-then-is_ne : goal.returns-then-is_ne
returns-then-is_ne c =
    let N : Model = model_of c.args.net.now in
    joined_compares c.compare-ordering.result _ _ N.transitions c.loop-position.position (λ j. row_length N _ _ ∙ sym (row_length N _ _)) c.loop-position-test.true c.loop-position.invariant
    (compares_as c.compare-ordering.result _ _ _ _ c.row.ensures.numbers c.row-theirs.ensures.numbers c.compare-ordering.ensures) (sym c.is_ne.ensures ∙ c.if-is_ne.true)

pub returns : goal.returns
returns c = joined_cong _ _ _ 0 (λ j l m. c.loop-position.invariant j (omega arith))
