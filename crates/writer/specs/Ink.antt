-- What a pen has written. Assumes nothing.
use Rattle.std.specs.Prelude.{◌≡◌, ℕ, ◌+◌, ◌*◌, ◌/◌, ◌%◌, ◌^◌, ◌≤◌, List, ◌++◌, length, drop}
use Rattle.format.specs.Fields.{Field, bytes_of, bytes_for, fill_for, spelt, size}
use Rattle.writer.specs.declared.pen.Pen.{Pen}

-- Over `old`, s bits are written that spell v: whole bytes up to `at`, and `count` bits, `held`, that are still to come.
pub record Inked (old : List ℕ) (v s : ℕ) (buf : List ℕ) (at held count : ℕ) : Type 0 where
  pub text : buf ≡ bytes_of at (v / 2 ^ count) ++ drop at old
  pub rest : held ≡ v % 2 ^ count
  pub sized : 8 * at + count ≡ s

abbrev pub Inks : List ℕ → ℕ → ℕ → Pen → Type 0
Inks old v s pen = Inked old v s pen.buffer.now pen.at pen.held pen.count

-- the bits that a pen has written
abbrev pub bits_at : Pen → ℕ
bits_at pen = 8 * pen.at + pen.count

-- the buffer has room for the whole bytes that are there once the fields fs are written too
abbrev pub HasRoom : List Field → Pen → Type 0
HasRoom fs pen = (bits_at pen + size fs) / 8 ≤ length pen.buffer.now

-- From `pen` to `pen'`, over one buffer, the fields fs are written, whatever came before.
pub record Writes (fs : List Field) (pen pen' : Pen) : Type 0 where
  pub same : pen'.buffer.ghost_name ≡ pen.buffer.ghost_name
  pub long : length pen'.buffer.now ≡ length pen.buffer.now
  pub sized : bits_at pen' ≡ bits_at pen + size fs
  pub inked : (old : List ℕ) (v s : ℕ) → Inks old v s pen → Inks old (spelt v fs) (s + size fs) pen'

-- After `pen` the last byte is filled with zero bits: what it has written is then the first n bytes of buf, and the rest is as before.
abbrev pub Filled : Pen → ℕ → List ℕ → Type 0
Filled pen n buf = (old : List ℕ) (v s : ℕ) → Inks old v s pen → (n ≡ bytes_for s) × (buf ≡ bytes_of (bytes_for s) (v * 2 ^ fill_for s) ++ drop (bytes_for s) old)
