use Rattle.std.proofs.Common.{ℕ, replicate, sym, ◌∙◌, arith}
use Rattle.std.proofs.lemmas.List.{length-replicate}
use Rattle.std.proofs.lemmas.List.FromFn.{length-map-range_with_len}
use Rattle.finite.proofs.Sums.{sum_zero}
use Rattle.drawing.specs.Drawn.{drawn}
use Rattle.finite.proofs.Tables.{zero_list}
use Rattle.play.specs.Moves.{bare}
use Rattle.play.proofs.Markings.{at_tabulate}
use Rattle.play.proofs.Tokens.{held_is}
use Rattle.table.proofs.half.Half.new.Goals as goal

pub invariant_of-result : goal.invariant_of-result
invariant_of-result c = record { room = omega (arith, sum_zero (drawn c.args.net).places _ (λ x l. zero_list 64 x)) }

pub returns-clause-bare : goal.returns-clause-bare
returns-clause-bare c =
    let n = (drawn c.args.net).places in
    held_is n (replicate 64 0) (bare (drawn c.args.net)) (omega (arith, length-replicate {A = ℕ} 64 0, c.args.net.arrays.few.0)) (length-map-range_with_len _ 0 n)
    (λ x l. zero_list 64 x ∙ sym (at_tabulate (λ _. 0) n x l))
