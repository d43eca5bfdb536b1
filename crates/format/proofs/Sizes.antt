-- How many bits the fields of a net take.
use Rattle.std.proofs.Common.{◌≡◌, ℕ, ◌+◌, ◌*◌, ◌^◌, ◌<◌, ◌≤◌, List, [], ◌∷◌, length, add-zero, add-mul, arith}
use Rattle.std.proofs.lemmas.Nat.{mul-le}
use Rattle.net.specs.Model.{Model}
use Rattle.format.specs.Fields.{Field, size, number, each, packed, bytes_for, fill_for}
use Rattle.format.specs.Sheets.{row_of, rows_of, labels_of, fields_of, weights_of, row_at, longest_sheet}
use Rattle.format.proofs.Runs.{size_append, size_each}
use Rattle.format.proofs.Bytes.{length_bytes}

-- the bits of n fields of one width
pub size_same : (w : ℕ) (f : ℕ → ℕ) (n : ℕ) → size (each (λ i. (w, f i) ∷ []) n) ≡ n * w
unfolding size
size_same w f n = size_each (λ i. (w, f i) ∷ []) w n (λ i l. add-zero w)

pub size_row : (m : Model) (t : ℕ) → size (row_of m t) ≡ 10 + 16 * m.places
unfolding size
size_row m t = omega (arith, size_append (weights_of (m.cause t) m.places) (weights_of (m.effect t) m.places), size_same 8 (m.cause t) m.places, size_same 8 (m.effect t) m.places)

pub size_rows : (m : Model) (n : ℕ) → size (each (row_of m) n) ≡ n * (10 + 16 * m.places)
size_rows m n = size_each (row_of m) (10 + 16 * m.places) n (λ t l. size_row m t)

pub size_fields : (m : Model) → size (fields_of m) ≡ row_at m.places m.transitions
unfolding size
size_fields m = omega (arith, size_append (labels_of m) (rows_of m), size_same 10 m.place_label m.places, size_rows m m.transitions)

pub sheet_room : (n t : ℕ) → n ≤ 64 → t ≤ 128 → row_at n t ≤ 8 * longest_sheet
sheet_room n t h l = omega (arith, mul-le t (10 + 16 * n) 128 1034 l (omega arith))

pub length_packed : (fs : List Field) → length (packed fs) ≡ bytes_for (size fs)
unfolding packed
length_packed fs = length_bytes (bytes_for (size fs)) (number fs * 2 ^ fill_for (size fs))

-- a row lies before the sheet's end
pub row_inside : (n t ts : ℕ) → t < ts → row_at n t + (10 + 16 * n) ≤ row_at n ts
row_inside n t ts h = omega (arith, mul-le (t + 1) (10 + 16 * n) ts (10 + 16 * n) (omega arith) (omega arith), add-mul t 1 (10 + 16 * n))
