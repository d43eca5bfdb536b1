use Rattle.std.proofs.Common.{ℕ, ◌∙◌, arith, length-set}
use Rattle.std.proofs.lemmas.List.{length-replicate}
use Rattle.play.proofs.Tokens.{write_more}
use Rattle.table.specs.Views.{net_of, held}
use Rattle.table.proofs.Shifts.{is_shifted}
use Rattle.table.proofs.half.shift.Shift.tokens.Goals as goal

pub loop-x-init : goal.loop-x-init
loop-x-init c = (length-replicate {A = ℕ} 64 0, λ y l. absurd (omega arith))

pub loop-x-preserved : goal.loop-x-preserved
loop-x-preserved c =
    let h = c.args.self.now.half.now in (
      length-set c.loop-x.new c.loop-x.x _ ∙ c.loop-x.invariant.0,
      write_more c.loop-x.new c.loop-x.x _ _ (omega (arith, c.loop-x.invariant.0, h.net.arrays.few.0)) c.count.ensures.value c.loop-x.invariant.1,
    )

pub returns : goal.returns
returns c =
    let s = c.args.self.now in
    let h = s.half.now in
    is_shifted (net_of h) (held h) c.loop-x.new s.off s.step.sort s.step.number (omega (arith, c.loop-x.invariant.0, h.net.arrays.few.0)) (λ x l. c.loop-x.invariant.1 x (omega arith))
