-- What the views of the parts stand for.
use Rattle.std.specs.Prelude.{◌≡◌, ℕ, List, [], Ok, Err, Option, Result}
use Rattle.layout.specs.declared.coverage.Coverage.{Coverage}
use Rattle.layout.specs.Lookup.{covered, Sound}
use Rattle.fields.specs.declared.fault.Fault.{Fault}
use Rattle.fields.specs.declared.cursor.Cursor.{Cursor}
use Rattle.fields.specs.Fields.{Rest}
use Rattle.fields.specs.Cursors.{rest}
use Rattle.fields.specs.Arrays.{mark_array_reader, base_array_reader}
use Rattle.markbase.specs.declared.mark_array.MarkArray.{MarkArray}
use Rattle.markbase.specs.declared.base_array.BaseArray.{BaseArray}
use Rattle.markbase.specs.Nodes.{node_of, read}

-- the answer is a cursor behind a field of this value, or where the field is broken
abbrev pub Passes : ℕ → Result (ℕ × Rest) ℕ → Result Cursor Fault → Type 0
Passes w x (Ok c) = x ≡ Ok (w, rest c)
Passes w x (Err f) = x ≡ Err f.place

-- the values of a reading that nothing breaks
abbrev pub list_of : {A : Type 0} → Result (List A) ℕ → List A
list_of (Ok xs) = xs
list_of (Err p) = []

-- the marks of an array: class and anchor
unfoldable pub marks_of : MarkArray → List (ℕ × Option ℕ)
marks_of m = list_of (read (mark_array_reader m.count m.class_count) (node_of m.vertex))

-- for each base of an array its anchors
unfoldable pub rows_of : BaseArray → List (List (Option ℕ))
rows_of m = list_of (read (base_array_reader m.count m.class_count) (node_of m.vertex))

-- the answer is the mark array that was read, or where it is broken
abbrev pub ReadsMarks : Result (List (ℕ × Option ℕ)) ℕ → Result MarkArray Fault → Type 0
ReadsMarks x (Ok m) = x ≡ Ok (marks_of m)
ReadsMarks x (Err f) = x ≡ Err f.place

-- the answer is the base array that was read, or where it is broken
abbrev pub ReadsBases : Result (List (List (Option ℕ))) ℕ → Result BaseArray Fault → Type 0
ReadsBases x (Ok m) = x ≡ Ok (rows_of m)
ReadsBases x (Err f) = x ≡ Err f.place

-- the answer is the coverage that was read, or where it is broken
abbrev pub ReadsCoverage : Result (List ℕ) ℕ → Result Coverage Fault → Type 0
ReadsCoverage x (Ok c) = (x ≡ Ok (covered c.bytes.now)) × Sound c.bytes.now
ReadsCoverage x (Err f) = x ≡ Err f.place
