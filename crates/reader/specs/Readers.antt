-- The net that a reader reads. Assumes nothing.
use Rattle.net.specs.Model.{Model}
use Rattle.format.specs.Sheets.{net_of}
use Rattle.reader.specs.declared.sheet.SheetReader.{SheetReader}

abbrev pub read_net : SheetReader → Model
read_net r = net_of r.fields.bytes.now
