-- What a call needs, and whether there is room.
use Rattle.std.specs.Prelude.{ℕ, ◌+◌, ◌*◌, cond, List, [], ◌∷◌, length, drop, Some, None, sum_by, Option, ◌==◌, nat_le, nat_lt}
use Rattle.refusal.specs.declared.Shortage.{Shortage}
use Rattle.refusal.specs.declared.Shortage.TheVariants.{Vertices, Links, Bytes}
use Rattle.serialize.specs.Objects.{Node, bytes_at, all_links}
use Rattle.graph.specs.Model.{Model}
use Rattle.markbase.specs.declared.lookup_type.LookupType.{LookupType}
use Rattle.markbase.specs.declared.lookup_type.LookupType.TheVariants.{MarkToBase, Extension}
use Rattle.markbase.specs.Values.{Subtable}
use Rattle.lookups.specs.Tables.{Fields}
use Rattle.splitting.specs.Vertices.{Meaning, coverage_vertex}
use Rattle.splitting.specs.Cuts.{Plan}
use Rattle.splitting.specs.Leaving.{kept_piece, piece_vertices, new_count, left_by}

-- vertices, links and bytes
pub record Need : Type 0 where
  pub vertices : ℕ
  pub links : ℕ
  pub bytes : ℕ

-- how many links a new piece brings: one in the lookup, four in the subtable, and one in its extension
abbrev pub piece_links : LookupType → ℕ
piece_links MarkToBase = 5
piece_links Extension = 6

-- the bytes of vertices
abbrev pub byte_count : List Node → ℕ
byte_count nodes = sum_by (λ (x : Node). length x.bytes) nodes

-- the bytes of the kept mark coverage, if it is longer than it was
abbrev pub grown : Meaning → List Node → Subtable × List ℕ → ℕ
grown w nodes c =
    elim c.1 [
      | [] ↦ 0
      | p ∷ ps ↦
          let len = length (coverage_vertex w (kept_piece c.0 p)).bytes in
          cond (nat_lt (length (bytes_at nodes c.0.table.mark_coverage)) len) len 0
    ]

-- what a plan needs: for each new piece its vertices and links; the bytes of the new vertices, of kept mark coverages that grew, and of the longer lookup
abbrev pub need_of : Meaning → List Node → ℕ → Fields → Plan → Need
need_of w nodes v f plan =
    let after = left_by w nodes v f plan in
    record {
      vertices = piece_vertices f.kind * new_count plan;
      links = piece_links f.kind * new_count plan;
      bytes = cond (new_count plan == 0) 0 (byte_count (drop (length nodes) after) + sum_by (grown w nodes) plan + length (bytes_at after v));
    }

-- what extending needs: for each subtable one vertex of 8 bytes and one link
abbrev pub extend_need : List Subtable → Need
extend_need ts = record { vertices = length ts; links = length ts; bytes = 8 * length ts }

-- what there is too little of, the lowest number first
abbrev pub short_of : Model → Need → Option Shortage
short_of g n =
    cond (nat_le (length g.nodes + n.vertices) g.capacity.vertices)
    (cond (nat_le (length (all_links g.nodes) + n.links) g.capacity.links) (cond (nat_le (g.mark + n.bytes) g.capacity.bytes) None (Some Bytes)) (Some Links))
    (Some Vertices)

-- these vertices, for which so many bytes were dealt out
abbrev pub grown_to : Model → List Node → Need → Model
grown_to g nodes n = record { nodes = nodes; mark = g.mark + n.bytes; capacity = g.capacity }
