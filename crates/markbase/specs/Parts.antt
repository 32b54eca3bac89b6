-- A subtable read part by part.
use Rattle.std.specs.Prelude.{ℕ, List, [], ◌∷◌, length, Some, None, Ok, Err, Option, Result}
use Rattle.refusal.specs.declared.Part.TheVariants as part
use Rattle.serialize.specs.Objects.{Node, node_at}
use Rattle.fields.specs.Arrays.{mark_array_reader, base_array_reader}
use Rattle.markbase.specs.declared.table.MarkBasePosFormat1.{MarkBasePosFormat1}
use Rattle.markbase.specs.declared.fault.PartFault.{PartFault}
use Rattle.markbase.specs.declared.parts.TableInfo.{TableInfo}
use Rattle.markbase.specs.declared.lookup_type.LookupType.{LookupType}
use Rattle.markbase.specs.declared.lookup_type.LookupType.TheVariants.{MarkToBase, Extension}
use Rattle.markbase.specs.Nodes.{read}
use Rattle.markbase.specs.Tables.{subtable, extension, coverage}
use Rattle.markbase.specs.Faults.{in_part, ◌⟩◌}
use Rattle.markbase.specs.Values.{Mark, Base, Contents, Subtable}

-- the glyphs of a coverage, each with its record of an array
abbrev pub paired : {A X : Type 0} → (ℕ → A → X) → List ℕ → List A → List X
paired f [] records = []
paired f (g ∷ gs) [] = []
paired f (g ∷ gs) (a ∷ records) = f g a ∷ paired f gs records

-- a mark, from the mark coverage and the mark array
abbrev pub mark_of : ℕ → ℕ × Option ℕ → Mark
mark_of g m = record { glyph = g; class = m.0; anchor = m.1 }

-- a base, from the base coverage and the base array
abbrev pub base_of : ℕ → List (Option ℕ) → Base
base_of g row = record { glyph = g; row = row }

-- parts 2 to 5: the coverages, and the arrays, which have as many records as the coverages have glyphs
abbrev pub contents_of : List Node → MarkBasePosFormat1 → Result Contents PartFault
contents_of nodes t =
    in_part part.MarkCoverage (coverage (node_at nodes t.mark_coverage)) ⟩ λ marks.
    in_part part.BaseCoverage (coverage (node_at nodes t.base_coverage)) ⟩ λ bases.
    in_part part.MarkArray (read (mark_array_reader (length marks) t.class_count) (node_at nodes t.mark_array)) ⟩ λ records.
    in_part part.BaseArray (read (base_array_reader (length bases) t.class_count) (node_at nodes t.base_array)) ⟩ λ rows.
    Ok record { marks = paired mark_of marks records; bases = paired base_of bases rows }

-- parts 1 to 5 of the subtable at a vertex, behind this extension
abbrev pub subtable_at : List Node → Option ℕ → ℕ → Result Subtable PartFault
subtable_at nodes e v =
    in_part part.Subtable (read subtable (node_at nodes v)) ⟩ λ t.
    contents_of nodes t ⟩ λ c.
    Ok record { extension = e; vertex = v; table = t; contents = c }

-- the subtable that an offset of a lookup leads to: in type 9 it stands behind an extension, part 0
abbrev pub subtable_of : List Node → LookupType → ℕ → Result Subtable PartFault
subtable_of nodes MarkToBase v = subtable_at nodes None v
subtable_of nodes Extension v = in_part part.Extension (read extension (node_at nodes v)) ⟩ λ x. subtable_at nodes (Some v) x.subtable

-- where the parts of a subtable stand, and how many marks and bases it has
abbrev pub info_of : Result Subtable PartFault → Result TableInfo PartFault
info_of (Ok t) = Ok record {
  extension = t.extension;
  vertex = t.vertex;
  table = t.table;
  mark_count = length t.contents.marks;
  base_count = length t.contents.bases;
}
info_of (Err f) = Err f
