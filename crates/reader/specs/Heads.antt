-- The first three fields of a sheet. Assumes nothing.
use Rattle.std.specs.Prelude.{◌≡◌, ℕ, ◌≤◌, List, length}
use Rattle.format.specs.Sheets.{form_of, places_of, transitions_of}
use Rattle.reader.specs.declared.head.Head.{Head}

-- the bytes begin with the head h
pub record HeadOf (bs : List ℕ) (h : Head) : Type 0 where
  pub long : 3 ≤ length bs
  pub form : h.form ≡ form_of bs
  pub places : h.places ≡ places_of bs
  pub transitions : h.transitions ≡ transitions_of bs
