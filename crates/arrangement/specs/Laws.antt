-- What is proved of arrangements, end sheets and seats. Assumes nothing.
use Rattle.std.specs.Prelude.{◌≡◌, ℕ, ◌⊎◌, ◌↔◌, List, [], ◌∷◌, length}
use Rattle.net.specs.Model.{Model, Lawful}
use Rattle.bisimulation.specs.Bisimulation.{Alike}
use Rattle.bisimulation.specs.Folding.{folded}
use Rattle.format.specs.Sheets.{net_of}
use Rattle.arrangement.specs.Arrangements.{at, Arrangement, Distinct}
use Rattle.arrangement.specs.Enumeration.{all_arrangements, arrangement_count}
use Rattle.arrangement.specs.EndSheets.{Least, NormalForm, end_sheet, arrangements}
use Rattle.arrangement.specs.Seats.{Seated, Seating, Sits}

-- x stands in the list
abbrev pub In : {X : Type 0} → X → List X → Type 0
In x [] = ⊥
In x (y ∷ ys) = (x ≡ y) ⊎ In x ys

-- no element stands in the list twice
abbrev pub Apart : {X : Type 0} → List X → Type 0
Apart [] = Unit {0}
Apart (x ∷ xs) = (In x xs → ⊥) × Apart xs

-- What is proved of the arrangements of a lawful net: the list of all of them has each once, and their number is its length.
pub record Enumerated (m : Model) : Type 0 where
  pub sound : (a : List ℕ) → In a (all_arrangements m) → (length a ≡ m.places) × Arrangement m (at a)
  pub whole : (a : List ℕ) → length a ≡ m.places → Arrangement m (at a) → In a (all_arrangements m)
  pub once : Apart (all_arrangements m)
  pub number : length (all_arrangements m) ≡ arrangement_count m

-- Two lawful nets have the same end sheet exactly when they are alike, and alike nets have equally many arrangements.
pub record Decides (l r : Model) : Type 0 where
  pub sheets : (end_sheet l ≡ end_sheet r) ↔ Alike l r
  pub counts : Alike l r → arrangements l ≡ arrangements r

pub record ArrangementLaw : Type 0 where
  -- arrangements are enumerated, and counted
  pub enumerated : (m : Model) → Lawful m → Enumerated m
  -- a net has one least sheet
  pub one : (m : Model) (d e : List ℕ) → Least m d → Least m e → d ≡ e
  -- two transitions of a folded net differ in label, cause or effect
  pub distinct : (m : Model) → Distinct (folded m)
  -- the end sheet of a net is its normal form, and decides likeness
  pub normal : (m : Model) → Lawful m → NormalForm m (end_sheet m)
  pub decides : (l r : Model) → Lawful l → Lawful r → Decides l r
  -- along whichever arrangement the seats go, a net sits on the net of its end sheet
  pub seated : (s : Seated) → Lawful s.net → Seating s → Sits (net_of (end_sheet s.net)) s
