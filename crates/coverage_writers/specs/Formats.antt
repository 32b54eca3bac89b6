-- The tables that the two writers write.
use Rattle.std.specs.Prelude.{ℕ, ◌+◌, ◌-◌, ◌*◌, ◌/◌, ◌%◌, cond, List, [], ◌∷◌, length, Some, None, Option, ◌==◌, nat_le}
use Rattle.std.specs.List.{flat_map}
use Rattle.coverage_writers.specs.Writing.{listed}

-- the two bytes of a word, the high one first
abbrev pub word_bytes : ℕ → List ℕ
word_bytes w = w / 256 % 256 ∷ w % 256 ∷ []

-- the bytes of a row of words
abbrev pub bytes_of : List ℕ → List ℕ
bytes_of ws = flat_map word_bytes ws

-- format 1: the words 1 and the count, and then the glyphs
abbrev pub format1 : List ℕ → List ℕ
format1 gs = bytes_of (1 ∷ length gs ∷ gs)

-- what a writer makes of a list whose tables are `bytes`: none of a list that has no table
abbrev pub meaning_by : (List ℕ → List ℕ) → List ℕ → Option (List ℕ)
meaning_by bytes gs = cond (listed gs) (Some (bytes gs)) None

-- what `CoverageFormat1` makes of a list
abbrev pub meaning1 : List ℕ → Option (List ℕ)
meaning1 gs = meaning_by format1 gs

-- the runs of neighbours in gs behind the run from s to e, each by its first glyph and its last
abbrev pub runs_from : ℕ → ℕ → List ℕ → List (ℕ × ℕ)
runs_from s e [] = (s, e) ∷ []
runs_from s e (g ∷ gs) = cond (g == e + 1) (runs_from s g gs) ((s, e) ∷ runs_from g g gs)

-- the runs of neighbours in a whole list
abbrev pub runs : List ℕ → List (ℕ × ℕ)
runs [] = []
runs (g ∷ gs) = runs_from g g gs

-- the words of ranges behind `seen` glyphs: first glyph, last glyph, index of the first
abbrev pub range_words : ℕ → List (ℕ × ℕ) → List ℕ
range_words seen [] = []
range_words seen (r ∷ rs) = r.0 ∷ r.1 ∷ seen ∷ range_words (seen + (r.1 + 1 - r.0)) rs

-- format 2: the words 2 and the count of the ranges, and then the ranges
abbrev pub format2 : List ℕ → List ℕ
format2 gs = bytes_of (2 ∷ length (runs gs) ∷ range_words 0 (runs gs))

-- format 1 if the glyphs are at most three times the ranges, and else format 2
abbrev pub table_of : List ℕ → List ℕ
table_of gs = cond (nat_le (length gs) (3 * length (runs gs))) (format1 gs) (format2 gs)

-- what `CoverageTable` makes of a list
abbrev pub table_meaning : List ℕ → Option (List ℕ)
table_meaning gs = meaning_by table_of gs
