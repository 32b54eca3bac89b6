-- Object files made of their parts.
use Rattle.std.specs.Prelude.{ℕ, ◌+◌, ◌*◌, ◌%◌, ◌^◌, List, [], ◌∷◌, ◌++◌, length, slice_index, bit_and, flat_map}
use Rattle.std.specs.Int.{to_be_bytes, w32}
use Rattle.serialize.specs.declared.object_file.LinkRecord.{LinkRecord}

-- the four bytes of each number, the highest first
abbrev pub words : List ℕ → List ℕ
words numbers = flat_map (to_be_bytes w32) numbers

-- the bytes of link records, four numbers each
abbrev pub records_bytes : List LinkRecord → List ℕ
records_bytes records = flat_map (λ (r : LinkRecord). words (r.parent ∷ r.position ∷ r.child ∷ r.width ∷ [])) records

-- the last 32 bits of a number, changed
abbrev pub changed : ℕ → ℕ → ℕ
changed n off = (bit_and n 4294967295 + off) % 2 ^ 32

-- the trailer's words: the tag, where the lengths and the records stand, and how many of each there are, each changed
abbrev pub trailer_words : ℕ → ℕ → ℕ → List ℕ → List ℕ
trailer_words area lengths records off =
    changed 0x4D4B4F42 (slice_index off 0) ∷ changed area (slice_index off 1) ∷ changed (area + 4 * lengths) (slice_index off 2) ∷ changed lengths (slice_index off 3) ∷ changed records (slice_index off 4) ∷ []

-- the file of these parts: the vertices' bytes, their lengths, the link records, and the trailer
abbrev pub file_of : List ℕ → List ℕ → List LinkRecord → List ℕ → List ℕ
file_of area lengths records off = area ++ words lengths ++ records_bytes records ++ words (trailer_words (length area) (length lengths) (length records) off)
