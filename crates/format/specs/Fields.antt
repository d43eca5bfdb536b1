-- Runs of bit fields, the most significant bit first, and the bytes that hold them. Assumes nothing.
use Rattle.std.specs.Prelude.{ℕ, zero, suc, ◌+◌, ◌-◌, ◌*◌, ◌/◌, ◌%◌, ◌^◌, ◌<◌, List, [], ◌∷◌, ◌++◌, map, take, slice_index}
use Rattle.std.specs.List.{AllByRecursion}

-- a field: its width in bits and its value
abbrev pub Field : Type 0
Field = ℕ × ℕ

-- the value of each field fits its width
abbrev pub Fit : List Field → Type 0
Fit fs = AllByRecursion (λ f. f.1 < 2 ^ f.0) fs

-- the bits of a run of fields
unfoldable pub size : List Field → ℕ
size [] = 0
size (f ∷ fs) = f.0 + size fs

-- the number that the bits of a run of fields spell after those of a
unfoldable pub spelt : ℕ → List Field → ℕ
spelt a [] = a
spelt a (f ∷ fs) = spelt (a * 2 ^ f.0 + f.1) fs

abbrev pub number : List Field → ℕ
number fs = spelt 0 fs

-- f 0 ++ f 1 ++ .. ++ f (n - 1)
unfoldable pub each : {X : Type 0} → (ℕ → List X) → ℕ → List X
each f zero = []
each f (suc n) = each f n ++ f n

-- the n bytes that spell v, the most significant first
unfoldable pub bytes_of : ℕ → ℕ → List ℕ
bytes_of zero v = []
bytes_of (suc n) v = bytes_of n (v / 256) ++ v % 256 ∷ []

-- the bytes that s bits take, and the bits that are left over
abbrev pub bytes_for : ℕ → ℕ
bytes_for s = (s + 7) / 8

abbrev pub fill_for : ℕ → ℕ
fill_for s = 8 * bytes_for s - s

-- the fields, then zero bits up to a whole byte
unfoldable pub packed : List Field → List ℕ
packed fs = bytes_of (bytes_for (size fs)) (number fs * 2 ^ fill_for (size fs))

-- bytes as fields of eight bits, and the number that they spell
abbrev pub octets : List ℕ → List Field
octets bs = map (λ (b : ℕ). (8, b)) bs

abbrev pub num : List ℕ → ℕ
num bs = number (octets bs)

-- the number that the first e bits of the bytes spell
unfoldable pub first : List ℕ → ℕ → ℕ
first bs e = (num (take (e / 8) bs) * 256 + slice_index bs (e / 8)) / 2 ^ (8 - e % 8)

-- the number that the w bits from bit o on spell
unfoldable pub field_at : List ℕ → ℕ → ℕ → ℕ
field_at bs o w = first bs (o + w) % 2 ^ w
