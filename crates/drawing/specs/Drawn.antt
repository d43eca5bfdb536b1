-- The net that is drawn, and that it is lawful. Assumes nothing.
use Rattle.net.specs.Model.{Model, Lawful}
use Rattle.drawing.specs.Arrays.{model_of}
use Rattle.drawing.specs.declared.Drawing.{Drawing}

abbrev pub drawn : Drawing → Model
drawn d = model_of d.arrays

pub drawn_lawful : (d : Drawing) → Lawful (drawn d)
drawn_lawful d = d.lawful
