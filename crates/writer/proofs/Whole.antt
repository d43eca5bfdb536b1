-- The pen of a whole sheet.
use Rattle.std.proofs.Common.{◌≡◌, ℕ, ◌+◌, ◌*◌, ◌/◌, ◌^◌, ◌≤◌, List, ◌++◌, length, take, drop, ltb, sym, ap, ◌∙◌, zero-add, arith}
use Rattle.std.proofs.lemmas.Bool.{cond-false, le-ltb}
use Rattle.std.proofs.lemmas.List.{length-append, length-drop}
use Rattle.net.specs.Model.{Model, Lawful}
use Rattle.format.specs.Fields.{Field, number, packed, bytes_of, bytes_for, fill_for, spelt, size}
use Rattle.format.specs.Sheets.{fields_of, sheet_of}
use Rattle.format.proofs.Bytes.{length_bytes}
use Rattle.format.proofs.Sizes.{length_packed, size_fields, sheet_room}
use Rattle.format.proofs.Writing.{sheet_short}
use Rattle.writer.specs.Ink.{Inks, Writes, HasRoom, Filled, bits_at}
use Rattle.writer.specs.Refusals.{buffer_refusal}
use Rattle.writer.specs.RoundTrip.{RoundTrip}
use Rattle.writer.specs.declared.pen.Pen.{Pen}
use Rattle.writer.proofs.RoundTrips.{round_trip}

-- a new pen stands at the front of as many bytes as there were
room_new : (old : List ℕ) (p : Pen) → Inks old 0 0 p → length p.buffer.now ≡ length old
room_new old p i =
    omega (arith, ap length i.text ∙ length-append (bytes_of p.at (0 / 2 ^ p.count)) (drop p.at old), length_bytes p.at (0 / 2 ^ p.count), length-drop p.at old, i.sized)

-- the longest sheet has room for the fields of any net
pub room_start : (m : Model) → Lawful m → (old : List ℕ) (p : Pen) → Inks old 0 0 p → 16627 ≤ length old → HasRoom (fields_of m) p
room_start m w old p i l = omega (arith, size_fields m, sheet_room m.places m.transitions w.few_places w.few_transitions, i.sized, room_new old p i)

pub room_end : (m : Model) → Lawful m → (old : List ℕ) (p : Pen) {q : Pen} → Inks old 0 0 p → 16627 ≤ length old → Writes (fields_of m) p q → bits_at q ≤ 8 * length q.buffer.now
room_end m w old p i l x = omega (arith, size_fields m, sheet_room m.places m.transitions w.few_places w.few_transitions, i.sized, room_new old p i, x.sized, x.long)

-- what is written from the start on, once it is filled
filled_fields : (fs : List Field) (old : List ℕ) (n : ℕ) (buf : List ℕ) {p q : Pen} → Inks old 0 0 p → Writes fs p q → Filled q n buf → (n ≡ length (packed fs)) × (buf ≡ packed fs ++ drop n old)
unfolding packed
filled_fields fs old n buf i x h =
    let s = size fs in
    let z : 0 + s ≡ s = zero-add s in
    let k = h old (spelt 0 fs) (0 + s) (x.inked old 0 0 i) in
    let e : n ≡ bytes_for s = k.0 ∙ ap bytes_for z in (
      e ∙ sym (length_packed fs),
      k.1 ∙ ap (λ (k : ℕ). bytes_of (bytes_for k) (number fs * 2 ^ fill_for k) ++ drop (bytes_for k) old) z ∙ ap (λ (k : ℕ). packed fs ++ drop k old) (sym e),
    )

-- what the buffer then is, and what its front is worth
pub written : (m : Model) → Lawful m → (old : List ℕ) (n : ℕ) (buf : List ℕ) {last : List ℕ} {p q : Pen} → 16627 ≤ length old → Inks old 0 0 p → Writes (fields_of m) p q → Filled q n buf → last ≡ buf →
    record {
      refusal : 0 ≡ buffer_refusal old;
      after : (n ≡ length (sheet_of m)) × (last ≡ sheet_of m ++ drop n old);
      short : n ≤ 16627;
      round_trip : RoundTrip m (take n last);
    }
written m w old n buf {last} l i x h e =
    let done = filled_fields (fields_of m) old n buf i x h in
    let after : last ≡ sheet_of m ++ drop n old = e ∙ done.1 in
    record {
      refusal = sym (cond-false (ltb (length old) 16627) 31 0 (le-ltb (length old) 16627 l));
      after = (done.0, after);
      short = omega (arith, done.0, sheet_short m w);
      round_trip = round_trip m w n last (drop n old) done.0 after;
    }
