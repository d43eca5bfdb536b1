use Rattle.arrangement.proofs.Laws.{arrangement_law}
use Rattle.normal.proofs.reduce.reduce.Goals as goal

pub returns-clause-normal : goal.returns-clause-normal
returns-clause-normal g c = arrangement_law.normal (g.N.Net.model c.args.net.now) (g.N.Net.lawful c.args.net.now)
