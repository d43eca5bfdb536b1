use Rattle.arrangement.proofs.arrangements_stand.Goals as goal
use Rattle.arrangement.proofs.Laws.{arrangement_law}

pub returns : goal.returns
returns c = arrangement_law
