use Rattle.std.proofs.Common.{refl, arith}
use Rattle.finite.specs.Below.{all_below}
use Rattle.format.specs.Fields.{spelt, first, field_at}
use Rattle.format.specs.Sheets.{sheet_refusal}
use Rattle.reader.proofs.sheet.SheetReader.new.Goals as goal

pub invariant_of-fields : goal.invariant_of-fields
unfolding spelt first field_at
invariant_of-fields c = record { headed = record { long = omega arith; form = refl; places = refl; transitions = refl }; inside = omega arith }

pub invariant_of-result : goal.invariant_of-result
unfolding sheet_refusal all_below spelt first field_at
invariant_of-result c = record { lawful = refl }
