-- The row of a transition along an order of the places, as numbers. Assumes nothing.
use Rattle.std.specs.Prelude.{ℕ, List}
use Rattle.drawing.specs.Arrays.{model_of}
use Rattle.arrangement.specs.Arrangements.{at, row}
use Rattle.search.specs.declared.rows.RowAlong.{RowAlong}

abbrev pub numbers_of : RowAlong → List ℕ
numbers_of r = row (model_of r.net.now) (at r.places.now) r.transition
