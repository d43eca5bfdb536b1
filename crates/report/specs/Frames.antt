-- The two frames of an input: each a length of two bytes, the most significant first, and as many bytes of a sheet. Assumes nothing.
use Rattle.std.specs.Prelude.{ℕ, ◌+◌, ◌*◌, Bool, cond, ◌&&◌, List, length, take, drop, nat_le, slice_index}
use Rattle.format.specs.Sheets.{longest_sheet, sheet_refusal}

-- the length that a frame at the front of the bytes gives
abbrev pub length_given : List ℕ → ℕ
length_given bs = 256 * slice_index bs 0 + slice_index bs 1

-- a whole frame, of a length that a sheet can have, stands at the front of the bytes
unfoldable pub framed : List ℕ → Bool
framed bs = nat_le 2 (length bs) && (nat_le (length_given bs) longest_sheet && nat_le (2 + length_given bs) (length bs))

-- the bytes in the frame, and those after it
abbrev pub sheet_in : List ℕ → List ℕ
sheet_in bs = take (length_given bs) (drop 2 bs)

abbrev pub after_frame : List ℕ → List ℕ
after_frame bs = drop (2 + length_given bs) bs

-- The numbers of what refuses the left and the right side, 0 where nothing does. No right frame is read after a left one that is refused as a frame.
abbrev pub left_refusal : List ℕ → ℕ
left_refusal bs = cond (framed bs) (sheet_refusal (sheet_in bs)) 51

abbrev pub right_refusal : List ℕ → ℕ
right_refusal bs = cond (framed bs && framed (after_frame bs)) (sheet_refusal (sheet_in (after_frame bs))) 51
