-- The worked examples, as rows of one table.
use Rattle.std.specs.Prelude.{◌≡◌, ℕ, List, [], ◌∷◌, ◌++◌, map, length, Some, None, Ok, Err, Option, Result}
use Rattle.std.specs.List.{AllByRecursion}
use Rattle.refusal.specs.declared.Shortage.TheVariants.{Vertices, Links, Bytes}
use Rattle.refusal.specs.declared.Refusal.{Refusal}
use Rattle.refusal.specs.declared.Refusal.TheVariants.{NoSubtable, BadReach, ClassTooLarge, NoRoom, AlreadyExtended}
use Rattle.serialize.specs.Objects.{Node, node_at, all_links}
use Rattle.graph.specs.Model.{Model}
use Rattle.coverage_writers.specs.Formats.{bytes_of, table_meaning}
use Rattle.splitting.specs.Cuts.{whole_size}
use Rattle.splitting.specs.Leaving.{new_count}
use Rattle.splitting.specs.Needs.{byte_count}
use Rattle.splitting.specs.Calls.{subtables_at, split_plan, split_all_plan, cut_by, split_refusal, split_all_refusal, extend_refusal, extended}
use Rattle.worked.specs.Tables.{vertex, extension_of, subtable, table_a, table_b, table_c, table_d, table_e, table_x}

-- a call on the lookup at vertex 0
pub data Call : Type 0 where
  split : ℕ → ℕ → Call
  split_all : ℕ → Call
  extend : Call

-- an answer, and the objects after it
abbrev Outcome : Type 0
Outcome = Result ℕ Refusal × Model

-- refused, nothing changes
abbrev unless : Option Refusal → Model → ℕ → Model → Outcome
unless None g n then = (Ok n, then)
unless (Some e) g n then = (Err e, g)

-- a call with `CoverageTable`
abbrev call : Model → Call → Outcome
call g (split place reach) = let plan = split_plan g 0 place reach in unless (split_refusal table_meaning g 0 place reach) g (new_count plan) (cut_by table_meaning g 0 plan)
call g (split_all reach) = let plan = split_all_plan g 0 reach in unless (split_all_refusal table_meaning g 0 reach) g (new_count plan) (cut_by table_meaning g 0 plan)
call g extend = unless (extend_refusal g 0) g (length (subtables_at g.nodes 0)) (extended g 0)

-- the calls of a row, one after the other: the last answer, and the objects after it
abbrev calls : Model → Call → List Call → Outcome
calls g c [] = call g c
calls g c (d ∷ ds) = calls (call g c).1 d ds

-- a table as it is loaded, with room for so many vertices, links and bytes
abbrev loaded : List Node → ℕ → ℕ → ℕ → Model
loaded nodes vertices links bytes = record { nodes = nodes; mark = byte_count nodes; capacity = record { vertices = vertices; links = links; bytes = bytes } }

-- a row: calls on a table with the last answer, then the sizes of the subtables, how many vertices and links there are, the mark, and some of the vertices; or a list of glyphs with its bytes
pub data Row : Type 0 where
  cutting : Model → Call → List Call → Result ℕ Refusal → List ℕ → ℕ → ℕ → ℕ → List (ℕ × Node) → Row
  covering : List ℕ → List ℕ → Row

-- the objects show all that the row says
pub record Shows (g : Model) (sizes : List ℕ) (vertices links mark : ℕ) (shown : List (ℕ × Node)) : Type 0 where
  pub sizes_are : map (whole_size g.nodes) (subtables_at g.nodes 0) ≡ sizes
  pub vertices_are : length g.nodes ≡ vertices
  pub links_are : length (all_links g.nodes) ≡ links
  pub mark_is : g.mark ≡ mark
  pub shown_are : AllByRecursion (λ (s : ℕ × Node). node_at g.nodes s.0 ≡ s.1) shown

-- a row holds
abbrev pub Holds : Row → Type 0
Holds (cutting g c cs answer sizes vertices links mark shown) = ((calls g c cs).0 ≡ answer) × Shows (calls g c cs).1 sizes vertices links mark shown
Holds (covering glyphs words) = table_meaning glyphs ≡ Some (bytes_of words)

-- the capacities of the program
abbrev program : List Node → Model
program nodes = loaded nodes 500 2000 16000

-- all that A at 65 changes and makes
abbrev cut_a : List (ℕ × Node)
cut_a =
    (0, vertex (4 ∷ 0 ∷ 2 ∷ 0 ∷ 0 ∷ []) ((6, 1) ∷ (8, 10) ∷ []))
    ∷ (1, subtable 1)
    ∷ (2, vertex (1 ∷ 1 ∷ 10 ∷ []) [])
    ∷ (4, vertex (1 ∷ 0 ∷ 0 ∷ []) ((4, 6) ∷ []))
    ∷ (5, vertex (1 ∷ 0 ∷ []) ((2, 8) ∷ []))
    ∷ (10, vertex (1 ∷ 0 ∷ 0 ∷ 1 ∷ 0 ∷ 0 ∷ []) ((2, 11) ∷ (4, 3) ∷ (8, 12) ∷ (10, 13) ∷ []))
    ∷ (11, vertex (1 ∷ 1 ∷ 12 ∷ []) [])
    ∷ (12, vertex (1 ∷ 0 ∷ 0 ∷ []) ((4, 7) ∷ []))
    ∷ (13, vertex (1 ∷ 0 ∷ []) ((2, 9) ∷ []))
    ∷ []

-- the nine rows that came with the tables
abbrev given_rows : List Row
given_rows =
    cutting (program table_a) (split 0 66) [] (Ok 0) (66 ∷ []) 10 9 74 ((0, node_at table_a 0) ∷ (2, node_at table_a 2) ∷ [])
    ∷ cutting (program table_a) (split 0 65) [] (Ok 1) (46 ∷ 46 ∷ []) 14 14 112 cut_a
    ∷ cutting (program table_a) (split 0 46) [] (Ok 1) (46 ∷ 46 ∷ []) 14 14 112 cut_a
    ∷ cutting (program table_a) (split 0 45) [] (Err (ClassTooLarge 0 0)) (66 ∷ []) 10 9 74 []
    ∷ cutting (program table_b) (split 0 62) [] (Ok 2) (58 ∷ 46 ∷ 46 ∷ []) 20 22 168 []
    ∷ cutting (program table_b) (split 0 91) [] (Ok 1) (72 ∷ 46 ∷ []) 16 17 138 []
    ∷ cutting (program table_c) (split 0 60) [] (Ok 1) (58 ∷ 60 ∷ []) 16 16 146 ((15, vertex (1 ∷ 0 ∷ 0 ∷ []) ((4, 11) ∷ [])) ∷ [])
    ∷ covering (1 ∷ 2 ∷ 3 ∷ 4 ∷ []) (0x0002 ∷ 0x0001 ∷ 0x0001 ∷ 0x0004 ∷ 0x0000 ∷ [])
    ∷ covering (1 ∷ 2 ∷ 3 ∷ []) (0x0001 ∷ 0x0003 ∷ 0x0001 ∷ 0x0002 ∷ 0x0003 ∷ [])
    ∷ []

-- rows with deep and circular anchors, type 9, a coverage that grows, several calls, and every refusal
abbrev more_rows : List Row
more_rows =
    cutting (program table_d) (split 0 68) [] (Ok 1) (68 ∷ 56 ∷ []) 16 18 128 []
    ∷ cutting (program table_d) (split 0 67) [] (Err (ClassTooLarge 0 0)) (82 ∷ []) 12 13 90 []
    ∷ cutting (program table_x) (split 0 65) [] (Ok 1) (46 ∷ 46 ∷ []) 16 16 128 ((0, vertex (9 ∷ 0 ∷ 2 ∷ 0 ∷ 0 ∷ []) ((6, 10) ∷ (8, 15) ∷ [])) ∷ (15, extension_of 11) ∷ [])
    ∷ cutting (program table_e) (split 0 77) [] (Ok 1) (52 ∷ 52 ∷ []) 10 10 144 ((2, vertex (1 ∷ 4 ∷ 10 ∷ 12 ∷ 14 ∷ 16 ∷ []) []) ∷ [])
    ∷ cutting (program table_a) extend [] (Ok 1) (66 ∷ []) 11 10 82 ((0, node_at table_x 0) ∷ (10, extension_of 1) ∷ [])
    ∷ cutting (program table_a) extend (extend ∷ []) (Err AlreadyExtended) (66 ∷ []) 11 10 82 []
    ∷ cutting (program table_a) (split 0 65) (extend ∷ []) (Ok 2) (46 ∷ 46 ∷ []) 16 16 128 ((14, extension_of 1) ∷ (15, extension_of 10) ∷ [])
    ∷ cutting (program table_b) (split 0 91) (split 0 62 ∷ []) (Ok 1) (58 ∷ 46 ∷ 46 ∷ []) 20 22 178 []
    ∷ cutting (program table_b) (split_all 62) [] (Ok 2) (58 ∷ 46 ∷ 46 ∷ []) 20 22 168 []
    ∷ cutting (program table_b) (split_all 62) (split_all 62 ∷ []) (Ok 0) (58 ∷ 46 ∷ 46 ∷ []) 20 22 168 []
    ∷ cutting (program table_b) (split 0 91) (split_all 45 ∷ []) (Err (ClassTooLarge 0 0)) (72 ∷ 46 ∷ []) 16 17 138 []
    ∷ cutting (program table_a) (split 1 0) [] (Err (NoSubtable 1)) (66 ∷ []) 10 9 74 []
    ∷ cutting (program table_a) (split 0 0) [] (Err (BadReach 0)) (66 ∷ []) 10 9 74 []
    ∷ cutting (program table_a) (split_all 65536) [] (Err (BadReach 65536)) (66 ∷ []) 10 9 74 []
    ∷ cutting (loaded table_a 13 13 111) (split 0 65) [] (Err (NoRoom Vertices)) (66 ∷ []) 10 9 74 []
    ∷ cutting (loaded table_a 14 13 111) (split 0 65) [] (Err (NoRoom Links)) (66 ∷ []) 10 9 74 []
    ∷ cutting (loaded table_a 14 14 111) (split 0 65) [] (Err (NoRoom Bytes)) (66 ∷ []) 10 9 74 []
    ∷ cutting (loaded table_a 14 14 112) (split 0 65) [] (Ok 1) (46 ∷ 46 ∷ []) 14 14 112 cut_a
    ∷ cutting (loaded table_a 11 10 81) extend [] (Err (NoRoom Bytes)) (66 ∷ []) 10 9 74 []
    ∷ []

-- the table
abbrev pub table : List Row
table = given_rows ++ more_rows
