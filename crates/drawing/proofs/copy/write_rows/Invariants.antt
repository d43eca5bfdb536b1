use Rattle.std.proofs.Common.{[]}
use Rattle.net.specs.Model.{empty}
use Rattle.drawing.specs.Arrays.{Shows}
use Rattle.drawing.proofs.Filled.{Filled}
use Rattle.drawing.proofs.copy.write_rows.Given as goal

abbrev pub invariant-loop-t : goal.invariant-loop-t
invariant-loop-t g l = Filled 128 (record { label = 0; cause = []; effect = [] }) (Shows (g.N.Net.model l.net)) (Shows empty) l.t l.rows
