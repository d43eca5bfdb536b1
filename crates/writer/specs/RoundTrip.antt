-- The round trip between a net and its sheet. Assumes nothing.
use Rattle.std.specs.Prelude.{◌≡◌, ℕ, ◌<◌, List}
use Rattle.std.specs.List.{AllByRecursion}
use Rattle.net.specs.Model.{Model}
use Rattle.format.specs.Sheets.{net_of, LawfulSheet}

-- The bytes are a lawful sheet and read as the net m; and each lawful sheet that reads as m has just these bytes.
pub record RoundTrip (m : Model) (bs : List ℕ) : Type 0 where
  pub lawful : LawfulSheet bs
  pub back : net_of bs ≡ m
  pub old : (sheet : List ℕ) → AllByRecursion (λ b. b < 256) sheet → LawfulSheet sheet → net_of sheet ≡ m → bs ≡ sheet
