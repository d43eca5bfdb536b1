-- The numbers of the refusals of a sheet.
use Rattle.std.proofs.Common.{◌<◌, arith}
use Rattle.reader.specs.Refusals.{number_of}
use Rattle.reader.specs.declared.refusal.SheetRefusal.{SheetRefusal}

-- none is 0
pub sheet_numbered : (e : SheetRefusal) → 0 < number_of e
sheet_numbered e = grind arith
