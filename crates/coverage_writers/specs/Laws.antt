-- What holds of all writers, of all lists, and of two lists by the numbers.
use Rattle.std.specs.Prelude.{◌≡◌, ℕ, ◌+◌, ◌-◌, ◌<◌, ◌≤◌, true, List, [], ◌∷◌, ◌++◌, Some, Ok, Option, slice_index}
use Rattle.layout.specs.Format.{run, read_coverage}
use Rattle.coverage_writers.specs.Writing.{ascends, listed, Lawful}
use Rattle.coverage_writers.specs.Formats.{bytes_of, runs, table_meaning}

-- every lawful writer, every list: what is written reads as that list
abbrev pub ReadsBack : Type 0
ReadsBack = (meaning : List ℕ → Option (List ℕ)) → Lawful meaning → (gs bs : List ℕ) → meaning gs ≡ Some bs → read_coverage bs ≡ Ok gs

-- every table: the glyphs that it covers ascend strictly
abbrev pub ReadsAscending : Type 0
ReadsAscending = (bs gs : List ℕ) → ((i : ℕ) → slice_index bs i < 256) → read_coverage bs ≡ Ok gs → ascends 0 gs ≡ true

-- runs in order from `low` on, of which no two touch: a glyph that no run covers stands between them
abbrev pub Apart : ℕ → List (ℕ × ℕ) → Type 0
Apart low [] = Unit {0}
Apart low (r ∷ rs) = (low ≤ r.0) × (r.0 ≤ r.1) × Apart (r.1 + 2) rs

-- the glyphs of runs
abbrev pub spread : List (ℕ × ℕ) → List ℕ
spread [] = []
spread (r ∷ rs) = run r.0 (r.1 + 1 - r.0) ++ spread rs

-- every list that a writer takes: its ranges are apart, and cover just its glyphs, so they are the maximal runs of neighbours
abbrev pub MaximalRuns : Type 0
MaximalRuns = (gs : List ℕ) → listed gs ≡ true → Apart 0 (runs gs) × (spread (runs gs) ≡ gs)

-- the glyphs 1 to 4 are one range of format 2, and 1 to 3 are format 1
abbrev pub WorkedRows : Type 0
WorkedRows =
    (table_meaning (1 ∷ 2 ∷ 3 ∷ 4 ∷ []) ≡ Some (bytes_of (0x0002 ∷ 0x0001 ∷ 0x0001 ∷ 0x0004 ∷ 0x0000 ∷ [])))
    × (table_meaning (1 ∷ 2 ∷ 3 ∷ []) ≡ Some (bytes_of (0x0001 ∷ 0x0003 ∷ 0x0001 ∷ 0x0002 ∷ 0x0003 ∷ [])))
