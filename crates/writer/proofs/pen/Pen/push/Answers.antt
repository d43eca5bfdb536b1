use Rattle.std.proofs.Common.{◌+◌, ◌*◌, ◌/◌, ◌%◌, ◌^◌, ◌<◌, length, sym, refl, ap, add-zero, ◌∙◌, arith, rules}
use Rattle.format.specs.Fields.{size}
use Rattle.writer.proofs.Pushing.{none_put, one_put, two_put, pushed}
use Rattle.writer.proofs.pen.Pen.push.Goals as goal
use Rattle.writer.proofs.pen.Pen.push.Goals.{then-count-ge16, else-count-ge16+then-count-ge8, else-count-ge16+else-count-ge8}

pub bounds-self-self : goal.bounds-self-self
unfolding size
bounds-self-self c = omega (arith, c.requires.room, c.if-count-ge16.true)

pub bounds-self-self-then-count-ge16 : goal.bounds-self-self-then-count-ge16
unfolding size
bounds-self-self-then-count-ge16 c =
    let next : c.args.self.now.at + 1 < length c.args.self.now.buffer.now = omega (arith, c.requires.room, c.if-count-ge16.true) in
    search rules

pub bounds-self-self-then-count-ge8 : goal.bounds-self-self-then-count-ge8
unfolding size
bounds-self-self-then-count-ge8 c = omega (arith, c.requires.room, c.if-count-ge8.true)

pub returns : goal.returns
unfolding size
returns c =
    let p = c.args.self.now in
    let r = (c.from.result * 2 ^ c.args.width % 4294967296 + c.from-2.result) / 2 ^ ((p.count + c.args.width) % 8) in
    elim c.if-count-ge16.branch [
      | then-count-ge16 w ↦ pushed p 2 c.requires.narrow c.requires.fits c.requires.room c.from.ensures c.from-2.ensures (omega (arith, p.short, c.requires.narrow, w.if-count-ge16.true))
          (ap (λ s. s.1.0.ghost_name) w.self-is)
          (ap (λ s. s.1.0.now) w.self-is ∙ two_put p.buffer.now p.at r c.to_be_bytes.ensures (omega (arith, c.requires.room, w.if-count-ge16.true)))
          (ap (λ s. s.1.1.0) w.self-is) refl refl
      | else-count-ge16+then-count-ge8 w ↦ pushed p 1 c.requires.narrow c.requires.fits c.requires.room c.from.ensures c.from-2.ensures (omega (arith, w.if-count-ge16.false, w.if-count-ge8.true))
          (ap (λ s. s.1.0.ghost_name) w.self-is)
          (ap (λ s. s.1.0.now) w.self-is ∙ one_put p.buffer.now p.at r c.to_be_bytes.ensures (omega (arith, c.requires.room, w.if-count-ge8.true)))
          (ap (λ s. s.1.1.0) w.self-is) refl refl
      | else-count-ge16+else-count-ge8 w ↦ pushed p 0 c.requires.narrow c.requires.fits c.requires.room c.from.ensures c.from-2.ensures (omega (arith, w.if-count-ge8.false))
          (ap (λ s. s.1.0.ghost_name) w.self-is)
          (ap (λ s. s.1.0.now) w.self-is ∙ none_put p.buffer.now p.at r c.to_be_bytes.ensures)
          (ap (λ s. s.1.1.0) w.self-is ∙ sym (add-zero p.at)) refl refl
    ]
