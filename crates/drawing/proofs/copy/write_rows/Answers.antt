use Rattle.std.proofs.Common.{inr, sym, ◌∙◌, arith}
use Rattle.drawing.proofs.Filled.{filled_more, filled_all}
use Rattle.drawing.proofs.copy.write_rows.Goals as goal

pub loop-t-init : goal.loop-t-init
loop-t-init g c = record {
  long = omega arith;
  done = λ k l. absurd (omega arith);
  blank = λ k _. c.requires k;
}

pub loop-t-preserved : goal.loop-t-preserved
loop-t-preserved g c = filled_more _ _ c.loop-t.invariant _ _ c.from.ensures
    (omega (arith, c.transitions-t-end.ensures, (g.N.Net.lawful c.args.net.now).few_transitions))
    c.row_of.ensures

pub returns : goal.returns
returns g c =
    let lawful = g.N.Net.lawful c.args.net.now in
    filled_all _ _ c.loop-t.invariant
    (λ k r l h. record {
      label = h.label ∙ sym (lawful.transition_labels.1 k (omega (arith, c.transitions-t-end.ensures)));
      cause = λ p. h.cause p ∙ sym (lawful.causes k p (inr (omega (arith, c.transitions-t-end.ensures))));
      effect = λ p. h.effect p ∙ sym (lawful.effects k p (inr (omega (arith, c.transitions-t-end.ensures))));
    })
