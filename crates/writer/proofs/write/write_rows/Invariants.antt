use Rattle.format.specs.Fields.{each}
use Rattle.format.specs.Sheets.{row_of}
use Rattle.writer.specs.Ink.{Writes}
use Rattle.writer.proofs.write.write_rows.Given as goal

abbrev pub invariant-loop-t : goal.invariant-loop-t
invariant-loop-t g l = Writes (each (row_of (g.N.Net.model l.net)) l.t) l.initial.pen l.pen
