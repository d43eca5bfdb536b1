use Rattle.fold.proofs.OwnGroups.{own_alike}
use Rattle.fold.proofs.folded.Folded.over.Goals as goal

pub returns-clause-alike : goal.returns-clause-alike
returns-clause-alike g c = own_alike (g.N.Net.model c.args.net.now) c.args.groups.now
