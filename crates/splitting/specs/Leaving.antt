-- What is left of a lookup after its subtables were cut, and after it was extended.
use Rattle.std.specs.Prelude.{ℕ, ◌+◌, ◌-◌, ◌*◌, cond, List, [], ◌∷◌, ◌++◌, map, length, Some, None, sum_by, Option, ◌==◌, slice_set}
use Rattle.std.specs.List.{flat_map}
use Rattle.serialize.specs.Objects.{Node}
use Rattle.markbase.specs.declared.lookup_type.LookupType.{LookupType}
use Rattle.markbase.specs.declared.lookup_type.LookupType.TheVariants.{MarkToBase, Extension}
use Rattle.markbase.specs.Tables.{table}
use Rattle.markbase.specs.Values.{Subtable}
use Rattle.lookups.specs.Tables.{Fields}
use Rattle.written.specs.Writing.{as_lookup, vertex_of}
use Rattle.pieces.specs.Pieces.{piece}
use Rattle.splitting.specs.Vertices.{Meaning, subtable_vertex, coverage_vertex, marks_vertex, bases_vertex, vertices, extension_vertex, top_of}
use Rattle.splitting.specs.Cuts.{Plan}

-- the first run, up to class p: it stays in the vertices of its subtable
abbrev pub kept_piece : Subtable → ℕ → Subtable
kept_piece t p = record {
  extension = t.extension;
  vertex = t.vertex;
  table = table t.table.mark_coverage t.table.base_coverage p t.table.mark_array t.table.base_array;
  contents = piece t.contents 0 p;
}

-- a later run a .. b: it gets the four vertices from v on, and shares the base coverage
abbrev pub new_piece : Subtable → Option ℕ → ℕ → ℕ → ℕ → Subtable
new_piece t e v a b = record { extension = e; vertex = v; table = table (v + 1) t.table.base_coverage (b - a) (v + 2) (v + 3); contents = piece t.contents a b }

-- in type 9 it also gets an extension
abbrev pub extension_at : LookupType → ℕ → Option ℕ
extension_at MarkToBase e = None
extension_at Extension e = Some e

-- the later runs from class a on: their vertices follow one another from v on, and their extensions from e on
abbrev pub new_pieces : LookupType → Subtable → ℕ → ℕ → ℕ → List ℕ → List Subtable
new_pieces kind t v e a [] = new_piece t (extension_at kind e) v a t.table.class_count ∷ []
new_pieces kind t v e a (p ∷ ps) = new_piece t (extension_at kind e) v a p ∷ new_pieces kind t (v + 4) (e + 1) p ps

-- the new pieces of a subtable that is cut at p and then at ps, if there are n vertices: first the vertices of all pieces, then the extensions
abbrev pub later_pieces : LookupType → ℕ → Subtable → ℕ → List ℕ → List Subtable
later_pieces kind n t p ps = new_pieces kind t n (n + 4 * (length ps + 1)) p ps

-- all pieces of a subtable
abbrev pub pieces_of : LookupType → ℕ → Subtable → List ℕ → List Subtable
pieces_of kind n t [] = t ∷ []
pieces_of kind n t (p ∷ ps) = kept_piece t p ∷ later_pieces kind n t p ps

-- a subtable is written anew in its own vertices
abbrev pub rewritten : Meaning → List Node → Subtable → List Node
rewritten w nodes t =
    slice_set (slice_set (slice_set (slice_set nodes t.vertex (subtable_vertex t)) t.table.mark_coverage (coverage_vertex w t)) t.table.mark_array (marks_vertex t)) t.table.base_array (bases_vertex t)

-- the vertices of new pieces: those of each piece, and then the extensions
abbrev pub new_vertices : Meaning → List Subtable → List Node
new_vertices w ts = flat_map (vertices w) ts ++ flat_map extension_vertex ts

-- the vertices after one subtable was cut; where it is one run, nothing changes
abbrev pub cut : Meaning → LookupType → List Node → Subtable → List ℕ → List Node
cut w kind nodes t [] = nodes
cut w kind nodes t (p ∷ ps) = rewritten w nodes (kept_piece t p) ++ new_vertices w (later_pieces kind (length nodes) t p ps)

-- the vertices after each subtable was cut in turn
abbrev pub cut_all : Meaning → LookupType → List Node → Plan → List Node
cut_all w kind nodes [] = nodes
cut_all w kind nodes (c ∷ plan) = cut_all w kind (cut w kind nodes c.0 c.1) plan

-- how many vertices a new piece has
abbrev pub piece_vertices : LookupType → ℕ
piece_vertices MarkToBase = 4
piece_vertices Extension = 5

-- the subtables then, new ones right after their original, if there were n vertices
abbrev pub subtables_left : LookupType → ℕ → Plan → List Subtable
subtables_left kind n [] = []
subtables_left kind n (c ∷ plan) = pieces_of kind n c.0 c.1 ++ subtables_left kind (n + piece_vertices kind * length c.1) plan

-- how many new pieces there are
abbrev pub new_count : Plan → ℕ
new_count plan = sum_by (λ (c : Subtable × List ℕ). length c.1) plan

-- a lookup's fields with other subtables
abbrev pub with_subtables : Fields → LookupType → List Subtable → Fields
with_subtables f kind ts = record { kind = kind; flag = f.flag; offsets = map top_of ts; filter = f.filter }

-- the fields of the lookup then
abbrev pub fields_left : List Node → Fields → Plan → Fields
fields_left nodes f plan = with_subtables f f.kind (subtables_left f.kind (length nodes) plan)

-- all vertices after a plan was carried out on the lookup at v: without a new piece nothing changes
abbrev pub left_by : Meaning → List Node → ℕ → Fields → Plan → List Node
left_by w nodes v f plan = cond (new_count plan == 0) nodes (slice_set (cut_all w f.kind nodes plan) v (vertex_of (as_lookup (fields_left nodes f plan))))

-- subtables behind extensions, the first of which has the number e
abbrev pub behind : ℕ → List Subtable → List Subtable
behind e [] = []
behind e (t ∷ ts) = record { extension = Some e; vertex = t.vertex; table = t.table; contents = t.contents } ∷ behind (e + 1) ts

-- all vertices after the lookup at v was extended: type 9, and an extension for each subtable
abbrev pub extended_by : List Node → ℕ → Fields → List Subtable → List Node
extended_by nodes v f ts =
    let us = behind (length nodes) ts in
    slice_set nodes v (vertex_of (as_lookup (with_subtables f Extension us))) ++ flat_map extension_vertex us
