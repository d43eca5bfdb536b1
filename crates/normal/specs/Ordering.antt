-- The net of an ordered net, and that it is lawful. Assumes nothing.
use Rattle.net.specs.Model.{Model, Lawful}
use Rattle.drawing.specs.Drawn.{drawn, drawn_lawful}
use Rattle.arrangement.specs.Arrangements.{at, ordered}
use Rattle.arrangement.proofs.Lawfulness.{ordered_lawful}
use Rattle.normal.specs.declared.ordered.Ordered.{Ordered}

abbrev pub ordered_net : Ordered → Model
ordered_net x = ordered (drawn x.net.now) (at x.ranking.places) (at x.ranking.transitions)

pub ordered_net_lawful : (x : Ordered) → Lawful (ordered_net x)
ordered_net_lawful x = ordered_lawful (drawn x.net.now) (at x.ranking.places) (at x.ranking.transitions) (drawn_lawful x.net.now) x.permutes
