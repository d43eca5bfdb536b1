-- The sheet at the front of a buffer makes the round trip.
use Rattle.std.proofs.Common.{◌≡◌, ℕ, List, ◌++◌, length, take, sym, ap, ◌∙◌, subst}
use Rattle.std.proofs.lemmas.List.{take_at}
use Rattle.net.specs.Model.{Model, Lawful}
use Rattle.format.specs.Sheets.{sheet_of}
use Rattle.format.proofs.Reading.{sheet_again}
use Rattle.format.proofs.Writing.{sheet_reads_lawful, net_again}
use Rattle.writer.specs.RoundTrip.{RoundTrip}

sheet_trip : (m : Model) → Lawful m → RoundTrip m (sheet_of m)
sheet_trip m w = record {
  lawful = sheet_reads_lawful m w;
  back = net_again m w;
  old = λ sheet small s e. ap sheet_of (sym e) ∙ sheet_again sheet small s;
}

pub round_trip : (m : Model) → Lawful m → (n : ℕ) (buf rest : List ℕ) → n ≡ length (sheet_of m) → buf ≡ sheet_of m ++ rest → RoundTrip m (take n buf)
round_trip m w n buf rest l e = subst (RoundTrip m) (sym (ap (take n) e ∙ take_at (sheet_of m) rest n (sym l))) (sheet_trip m w)
