use Rattle.std.proofs.Common.{sym, ◌∙◌, subst}
use Rattle.finite.proofs.Lexicographic.{at_most_self}
use Rattle.net.specs.Model.{Model}
use Rattle.drawing.specs.declared.arrays.Arrays.{Arrays}
use Rattle.drawing.specs.Arrays.{model_of}
use Rattle.arrangement.specs.Arrangements.{at}
use Rattle.search.specs.Rows.{Sorted}
use Rattle.search.proofs.Comparing.{lower_at_most, lower_is, at_most_is}
use Rattle.search.proofs.Standing.{sorted_at_most}
use Rattle.search.proofs.found.Found.settle.Goals as goal

pub returns-then-is_lt-clause-better : goal.returns-then-is_lt-clause-better
returns-then-is_lt-clause-better c =
    let s = c.args.self.now in
    let N : Model = model_of s.net.now in
    let a = at c.args.cells.now.places in
    let ts = at c.sort_rows.new.order in
    let sorted : Sorted N a ts = subst (λ (n : Arrays). Sorted (model_of n) a ts) c.requires.here c.sort_rows.ensures.sorted in
    sorted_at_most N a _ (at s.best.places) _ c.requires.distinct c.requires.arranged sorted s.good.arranges s.good.sorted
    (lower_at_most _ _ (sym (lower_is c.compare.result _ _ c.compare.ensures) ∙ sym c.is_lt.ensures ∙ c.if-is_lt.true))

pub returns-then-is_lt-clause-met : goal.returns-then-is_lt-clause-met
returns-then-is_lt-clause-met c = at_most_self _

pub returns-else-is_lt-clause-better : goal.returns-else-is_lt-clause-better
returns-else-is_lt-clause-better c = at_most_self _

pub returns-else-is_lt-clause-met : goal.returns-else-is_lt-clause-met
returns-else-is_lt-clause-met c =
    let s = c.args.self.now in
    let N : Model = model_of s.net.now in
    let a = at c.args.cells.now.places in
    let ts = at c.sort_rows.new.order in
    let sorted : Sorted N a ts = subst (λ (n : Arrays). Sorted (model_of n) a ts) c.requires.here c.sort_rows.ensures.sorted in
    sorted_at_most N (at s.best.places) _ a _ c.requires.distinct s.good.arranges s.good.sorted c.requires.arranged sorted
    (at_most_is c.compare.result _ _ c.compare.ensures (sym c.is_lt.ensures ∙ c.if-is_lt.false))
