-- What holds after a lookup was cut or extended.
use Rattle.std.specs.Prelude.{◌≡◌, ℕ, ◌+◌, ◌<◌, List, map, length, None, Ok}
use Rattle.std.specs.List.{AllByRecursion}
use Rattle.serialize.specs.Objects.{Node, node_at, all_links}
use Rattle.cutting.specs.Cutting.{Cutting}
use Rattle.coverage_writers.specs.Writing.{Lawful}
use Rattle.markbase.specs.declared.lookup_type.LookupType.TheVariants.{MarkToBase, Extension}
use Rattle.markbase.specs.Nodes.{read}
use Rattle.markbase.specs.Values.{Subtable}
use Rattle.lookups.specs.Tables.{Fields, lookup}
use Rattle.lookups.specs.Hits.{hits_in}
use Rattle.lookups.specs.Values.{lookup_of}
use Rattle.lookups.specs.Judging.{wrong_lookup}
use Rattle.pieces.specs.Keeping.{anchors}
use Rattle.splitting.specs.Vertices.{Meaning}
use Rattle.splitting.specs.Cuts.{Plan, whole_size}
use Rattle.splitting.specs.Leaving.{subtables_left, fields_left, left_by, with_subtables, behind, extended_by}
use Rattle.splitting.specs.Needs.{Need, need_of, extend_need}
use Rattle.splitting.specs.Standing.{Stands, SameAnchor}

-- the lookup at v, with the subtables ts, has become one with the fields f' and the subtables us
pub record Becomes (nodes nodes' : List Node) (v : ℕ) (f' : Fields) (ts us : List Subtable) (need : Need) : Type 0 where
  -- it reads so, and every property of object graphs and of lookups that can be opened holds again
  pub stands : Stands nodes' v f' us
  -- every pair has the hits that it had, in the same order
  pub hits : (m b : ℕ) → hits_in us m b ≡ hits_in ts m b
  -- nothing that an anchor reaches has changed
  pub same : AllByRecursion (λ (t : Subtable). AllByRecursion (SameAnchor nodes nodes') (anchors t.contents)) ts
  -- each subtable has the size that it would have had before
  pub sizes : AllByRecursion (λ (u : Subtable). whole_size nodes' u ≡ whole_size nodes u) us
  -- there are as many more vertices and links as were needed
  pub vertices : length nodes' ≡ length nodes + need.vertices
  pub links : length (all_links nodes') ≡ length (all_links nodes) + need.links

-- a plan cuts subtables into runs that hold classes
abbrev pub Cuts : Plan → Type 0
Cuts plan = AllByRecursion (λ (c : Subtable × List ℕ). Cutting 0 c.0.table.class_count c.1) plan

-- cutting: any lawful writer, any plan for the subtables, while vertices can be counted in a word
abbrev pub CuttingStands : Type 0
CuttingStands =
    (w : Meaning) → Lawful w → (nodes : List Node) (v : ℕ) (f : Fields) (ts : List Subtable) → Stands nodes v f ts
    → (plan : Plan) → map (λ (c : Subtable × List ℕ). c.0) plan ≡ ts → Cuts plan → length nodes + (need_of w nodes v f plan).vertices < 65536
    → Becomes nodes (left_by w nodes v f plan) v (fields_left nodes f plan) ts (subtables_left f.kind (length nodes) plan) (need_of w nodes v f plan)

-- extending: any lookup of type 4
abbrev pub ExtendingStands : Type 0
ExtendingStands =
    (nodes : List Node) (v : ℕ) (f : Fields) (ts : List Subtable) → Stands nodes v f ts → f.kind ≡ MarkToBase → length nodes + length ts < 65536
    → Becomes nodes (extended_by nodes v f ts) v (with_subtables f Extension (behind (length nodes) ts)) ts (behind (length nodes) ts) (extend_need ts)

-- a lookup that stands can be opened, and is read so
abbrev pub StandingOpens : Type 0
StandingOpens =
    (nodes : List Node) (v : ℕ) (f : Fields) (ts : List Subtable) → Stands nodes v f ts
    → (wrong_lookup nodes (read lookup (node_at nodes v)) ≡ None) × (lookup_of nodes v ≡ Ok record { kind = f.kind; flag = f.flag; subtables = ts })
