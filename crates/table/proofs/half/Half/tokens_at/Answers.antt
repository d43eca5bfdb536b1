use Rattle.std.proofs.Common.{arith}
use Rattle.play.proofs.Tokens.{at_held}
use Rattle.table.specs.Views.{net_of}
use Rattle.table.proofs.Tokens.{held_within}
use Rattle.table.proofs.half.Half.tokens_at.Goals as goal

pub returns-clause-bound : goal.returns-clause-bound
returns-clause-bound c =
    let h = c.args.self.now in
    omega (arith, at_held h.tokens (net_of h).places c.from.result (omega arith), held_within h c.from.result)
