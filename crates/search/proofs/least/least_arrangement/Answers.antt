use Rattle.std.proofs.Common.{◌≡◌, ℕ, true, sym, subst}
use Rattle.finite.specs.Lexicographic.{at_most}
use Rattle.net.specs.Model.{Model}
use Rattle.drawing.specs.declared.arrays.Arrays.{Arrays}
use Rattle.drawing.specs.Arrays.{model_of}
use Rattle.arrangement.specs.Arrangements.{at, rows_along}
use Rattle.search.specs.Cells.{OrderedBy}
use Rattle.search.specs.Descent.{Candidate}
use Rattle.search.proofs.Keys.{ordered_by_first}
use Rattle.search.proofs.Standing.{sorted_standing}
use Rattle.search.proofs.least.least_arrangement.Goals as goal

pub returns : goal.returns
returns c =
    let N : Model = model_of c.args.net.now in
    let labels = at c.of_labels-cells.result.labels in
    let best = c.descend.new.found.best in
    let here = c.of_labels-cells.ensures.here in
    let good : Candidate N best = subst (λ (n : Arrays). Candidate (model_of n) best) c.descend.ensures.here c.descend.new.found.good in
    let least : (b : ℕ → ℕ) → OrderedBy N.places labels b → at_most (rows_along N (at best.places)) (rows_along N b) ≡ true =
    subst (λ (n : Arrays). (b : ℕ → ℕ) → OrderedBy n.places labels b → at_most (rows_along (model_of n) (at best.places)) (rows_along (model_of n) b) ≡ true) here c.descend.ensures.least in
    record {
      arranges = good.arranges;
      stands = λ j l. sym (sorted_standing N (at best.places) (at best.transitions) c.requires good.arranges good.sorted j l);
      least = λ b o. least b (ordered_by_first N labels b c.of_labels-cells.ensures.finer o);
      places_long = good.places_long;
      transitions_long = good.transitions_long;
    }
