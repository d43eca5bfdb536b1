use Rattle.std.proofs.Common.{sym}
use Rattle.play.proofs.Markings.{covers_at}
use Rattle.table.proofs.half.Half.cover.Goals as goal

pub invariant_of-result : goal.invariant_of-result
invariant_of-result c = record { covered = λ x l. covers_at _ _ _ _ (sym c.if-not-covers.ensures) x l }
