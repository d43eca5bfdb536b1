-- Sides, sorts of lead and what is recorded of a lead. Assumes nothing.
use Rattle.std.specs.Prelude.{ℕ, Bool, true, false, ◌&&◌, ◌==◌}
use Rattle.play.specs.declared.kinds.Side.{Side}
use Rattle.play.specs.declared.kinds.Side.TheVariants.{Left, Right}
use Rattle.play.specs.declared.kinds.Sort.{Sort}
use Rattle.play.specs.declared.kinds.Sort.TheVariants.{Put, Take, Fire}
use Rattle.play.specs.declared.kinds.Lead.{Lead}

-- the side across the table
abbrev pub across : Side → Side
across Left = Right
across Right = Left

-- the record of a lead
abbrev pub lead_of : Side → Sort → ℕ → ℕ → Lead
lead_of side sort number seat = record { side = side; sort = sort; number = number; seat = record { 0 = seat } }

abbrev pub same_side : Side → Side → Bool
same_side Left Left = true
same_side Left Right = false
same_side Right Left = false
same_side Right Right = true

abbrev pub same_sort : Sort → Sort → Bool
same_sort Put Put = true
same_sort Put Take = false
same_sort Put Fire = false
same_sort Take Put = false
same_sort Take Take = true
same_sort Take Fire = false
same_sort Fire Put = false
same_sort Fire Take = false
same_sort Fire Fire = true

-- whether two records agree in all
abbrev pub same_lead : Lead → Lead → Bool
same_lead a b = same_side a.side b.side && (same_sort a.sort b.sort && (a.number == b.number && a.seat.0 == b.seat.0))
