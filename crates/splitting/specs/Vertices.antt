-- The vertices of a subtable, and what they hold.
use Rattle.std.specs.Prelude.{ℕ, List, [], ◌∷◌, map, Some, None, Option}
use Rattle.serialize.specs.Objects.{Node}
use Rattle.markbase.specs.Values.{Mark, Base, Contents, Subtable}
use Rattle.written.specs.Writing.{as_subtable, as_mark_array, as_base_array, as_extension, vertex_of}
use Rattle.pieces.specs.Pieces.{mark_glyphs}

-- what a coverage writer means: the bytes for a list of glyphs, or none
abbrev pub Meaning : Type 0
Meaning = List ℕ → Option (List ℕ)

-- the marks as the records of a mark array
abbrev pub records : Contents → List (ℕ × Option ℕ)
records c = map (λ (m : Mark). (m.class, m.anchor)) c.marks

-- the bases as the rows of a base array
abbrev pub rows : Contents → List (List (Option ℕ))
rows c = map (λ (b : Base). b.row) c.bases

-- the subtable itself
abbrev pub subtable_vertex : Subtable → Node
subtable_vertex t = vertex_of (as_subtable t.table)

-- bytes without a link, or none
abbrev pub bytes_only : Option (List ℕ) → Node
bytes_only (Some bs) = record { bytes = bs; links = [] }
bytes_only None = record { bytes = []; links = [] }

-- its mark coverage, as the writer writes it
abbrev pub coverage_vertex : Meaning → Subtable → Node
coverage_vertex w t = bytes_only (w (mark_glyphs t.contents))

-- its mark array
abbrev pub marks_vertex : Subtable → Node
marks_vertex t = vertex_of (as_mark_array (records t.contents))

-- its base array
abbrev pub bases_vertex : Subtable → Node
bases_vertex t = vertex_of (as_base_array (rows t.contents))

-- its four vertices, in the order in which they are made
abbrev pub vertices : Meaning → Subtable → List Node
vertices w t = subtable_vertex t ∷ coverage_vertex w t ∷ marks_vertex t ∷ bases_vertex t ∷ []

-- the vertex of its extension, if it has one
abbrev pub extension_vertex : Subtable → List Node
extension_vertex t = elim t.extension [ None ↦ [] | Some e ↦ vertex_of (as_extension t.vertex) ∷ [] ]

-- where an offset of the lookup leads: to its extension if it has one, and else to the subtable itself
abbrev pub top_of : Subtable → ℕ
top_of t = elim t.extension [ None ↦ t.vertex | Some e ↦ e ]

-- the numbers of its own vertices: its parts but for the base coverage
abbrev pub own_vertices : Subtable → List ℕ
own_vertices t =
    let own = t.vertex ∷ t.table.mark_coverage ∷ t.table.mark_array ∷ t.table.base_array ∷ [] in
    elim t.extension [ None ↦ own | Some e ↦ e ∷ own ]
