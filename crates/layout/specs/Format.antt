-- What the bytes of a Coverage table say, field by field in byte order: the glyphs that it covers, or the place of the first broken field.
use Rattle.std.specs.Prelude.{ℕ, zero, suc, ◌+◌, ◌-◌, ◌*◌, Bool, cond, List, [], ◌∷◌, ◌++◌, Ok, Err, Result, ◌==◌, nat_le}

-- glyphs, or the byte place of the first broken field
abbrev pub Read : Type 0
Read = Result (List ℕ) ℕ

-- two bytes are a word, the high byte first
abbrev pub word : ℕ → ℕ → ℕ
word hi lo = hi * 256 + lo

-- the field at place p: its word goes on to `next`, with the bytes after it; it is broken where the bytes end before or inside it
abbrev pub field : ℕ → (ℕ → List ℕ → Read) → List ℕ → Read
field p next [] = Err p
field p next (hi ∷ []) = Err p
field p next (hi ∷ lo ∷ rest) = next (word hi lo) rest

-- the field at place p is broken unless its word is allowed
abbrev pub allowed : Bool → ℕ → Read → Read
allowed ok p next = cond ok next (Err p)

-- these glyphs, and then those that the later fields give
abbrev pub also : List ℕ → Read → Read
also gs (Ok later) = Ok (gs ++ later)
also gs (Err p) = Err p

-- no byte follows the last field
abbrev pub end : ℕ → List ℕ → Read
end p [] = Ok []
end p (b ∷ rest) = Err p

-- the n glyphs from s on
abbrev pub run : ℕ → ℕ → List ℕ
run s zero = []
run s (suc n) = s ∷ run (s + 1) n

-- format 1: n glyphs at place p, each `low` at least, which is one above the glyph before it
abbrev pub glyphs : ℕ → ℕ → ℕ → List ℕ → Read
glyphs zero low p bs = end p bs
glyphs (suc n) low p bs = field p (λ g rest. allowed (nat_le low g) p (also (g ∷ []) (glyphs n (g + 1) (p + 2) rest))) bs

-- format 2: n ranges at place p, the first of which starts at `low` at the earliest, and `seen` glyphs stand before it
abbrev pub ranges : ℕ → ℕ → ℕ → ℕ → List ℕ → Read
ranges zero low seen p bs = end p bs
ranges (suc n) low seen p bs =
    field p (λ s rest. allowed (nat_le low s) p
    (field (p + 2) (λ e rest. allowed (nat_le s e) (p + 2)
    (field (p + 4) (λ i rest. allowed (i == seen) (p + 4)
    (also (run s (e + 1 - s)) (ranges n (e + 1) (seen + (e + 1 - s)) (p + 6) rest))) rest)) rest)) bs

-- a whole table: the format, the count, and then as many glyphs or ranges
abbrev pub read_coverage : List ℕ → Read
read_coverage bs =
    field 0 (λ format rest.
    cond (format == 1) (field 2 (λ n rest. glyphs n 0 4 rest) rest)
    (cond (format == 2) (field 2 (λ n rest. ranges n 0 0 4 rest) rest) (Err 0))) bs
