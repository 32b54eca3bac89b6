-- The tables of a mark-to-base lookup, field by field.
use Rattle.std.specs.Prelude.{ℕ, ◌*◌, ◌/◌, min, List, [], ◌∷◌, Ok, Err, Result, nat_eq, nat_le}
use Rattle.serialize.specs.declared.link.Link.{Link}
use Rattle.serialize.specs.declared.link.LinkWidth.TheVariants.{Two, Four}
use Rattle.serialize.specs.Objects.{Node}
use Rattle.layout.specs.Format.{read_coverage}
use Rattle.fields.specs.Fields.{Reader, offset, allowed, give, ◌⟫◌}
use Rattle.markbase.specs.declared.table.MarkBasePosFormat1.{MarkBasePosFormat1}
use Rattle.markbase.specs.declared.extension.ExtensionSubtable.{ExtensionSubtable}

-- the fields of a subtable as one value
abbrev pub table : ℕ → ℕ → ℕ → ℕ → ℕ → MarkBasePosFormat1
table marks bases classes mark_array base_array = record { mark_coverage = marks; base_coverage = bases; class_count = classes; mark_array = mark_array; base_array = base_array }

-- part 1: format 1, both coverages, at least one class, both arrays
abbrev pub subtable : Reader MarkBasePosFormat1
subtable =
    allowed (nat_eq 1) ⟫ λ format. offset Two ⟫ λ marks. offset Two ⟫ λ bases. allowed (nat_le 1) ⟫ λ classes. offset Two ⟫ λ mark_array. offset Two ⟫ λ base_array.
    give (table marks bases classes mark_array base_array)

-- part 0: format 1, type 4, and the subtable
abbrev pub extension : Reader ExtensionSubtable
extension = allowed (nat_eq 1) ⟫ λ format. allowed (nat_eq 4) ⟫ λ kind. offset Four ⟫ λ child. give record { subtable = child }

-- words only: the first link breaks the word in which it starts, if no field before that is broken
abbrev pub words_only : {A : Type 0} → List Link → Result A ℕ → Result A ℕ
words_only [] x = x
words_only (l ∷ ls) (Ok a) = Err (l.position / 2 * 2)
words_only (l ∷ ls) (Err p) = Err (min p (l.position / 2 * 2))

-- parts 2 and 3: the glyphs of a coverage
abbrev pub coverage : Node → Result (List ℕ) ℕ
coverage x = words_only x.links (read_coverage x.bytes)
