-- A piece stands in its vertices.
use Rattle.std.proofs.Common.{◌≡◌, ℕ, List, [], ◌∷◌, Some, None, Option, sym, refl, subst, inl, inr}
use Rattle.serialize.specs.Objects.{Node, node_at}
use Rattle.markbase.specs.Values.{Subtable}
use Rattle.written.specs.Writing.{as_extension, vertex_of}
use Rattle.splitting.specs.Vertices.{Meaning, subtable_vertex, coverage_vertex, marks_vertex, bases_vertex, own_vertices}
use Rattle.splitting.proofs.Members.{In}

-- the four numbers that every subtable has of its own
abbrev pub four_of : Subtable → List ℕ
four_of t = t.vertex ∷ t.table.mark_coverage ∷ t.table.mark_array ∷ t.table.base_array ∷ []

-- the four are own vertices, and so is the extension
pub four_own : (t : Subtable) (y : ℕ) → In y (four_of t) → In y (own_vertices t)
four_own t y i = by t.extension i
  where
    by : (e : Option ℕ) → In y (four_of t) → In y (elim e [ None ↦ four_of t | Some x ↦ x ∷ four_of t ])
    by None i = i
    by (Some x) i = inr i

pub extension_own : (t : Subtable) (e : ℕ) → t.extension ≡ Some e → In e (own_vertices t)
extension_own t e h = subst (λ (o : Option ℕ). In e (elim o [ None ↦ four_of t | Some x ↦ x ∷ four_of t ])) (sym h) (inl refl)

-- its four vertices hold what it says
pub record Holds (w : Meaning) (nodes : List Node) (t : Subtable) : Type 0 where
  pub fields : node_at nodes t.vertex ≡ subtable_vertex t
  pub marks : node_at nodes t.table.mark_coverage ≡ coverage_vertex w t
  pub mark_records : node_at nodes t.table.mark_array ≡ marks_vertex t
  pub base_rows : node_at nodes t.table.base_array ≡ bases_vertex t

-- so does its extension, if it has one
abbrev pub Extended : List Node → Subtable → Type 0
Extended nodes t = (e : ℕ) → t.extension ≡ Some e → node_at nodes e ≡ vertex_of (as_extension t.vertex)
