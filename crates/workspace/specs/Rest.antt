-- What holds between calls: of the working lists, of the visit marks, of the open lookup.
use Rattle.std.specs.Prelude.{◌≡◌, ℕ, ◌<◌, Bool, true, false, cond, not, ◌&&◌, List, length, replicate, is_some, Some, None, Option, ◌==◌, nat_le, nat_lt}
use Rattle.refusal.specs.declared.Refusal.{Refusal}
use Rattle.refusal.specs.declared.Refusal.TheVariants.{NoLookup}
use Rattle.serialize.specs.Objects.{Node, node_at, incoming}
use Rattle.markbase.specs.Nodes.{read}
use Rattle.lookups.specs.Tables.{lookup}
use Rattle.lookups.specs.Judging.{wrong_lookup}
use Rattle.graph.specs.declared.vertex.Capacity.{Capacity}
use Rattle.graph.specs.Model.{Model as Objects}

-- two lists of 65,535 entries and a visit mark for each vertex that the table can hold
abbrev pub long_enough : Capacity → ℕ → ℕ → ℕ → Bool
long_enough c first second visited = nat_le 65535 first && (nat_le 65535 second && nat_le c.vertices visited)

-- no file is loaded where they are not
abbrev pub Served : Objects → ℕ → ℕ → ℕ → Type 0
Served g first second visited = 0 < length g.nodes → long_enough g.capacity first second visited ≡ true

-- what is wrong with a vertex as a lookup: there is none, or it has incoming links, or it is broken, or parts of it are broken or shared
unfoldable pub wrong_at : List Node → ℕ → Option Refusal
wrong_at nodes v = cond (nat_lt v (length nodes) && incoming nodes v == 0) (wrong_lookup nodes (read lookup (node_at nodes v))) (Some NoLookup)

-- whether nothing is wrong with the lookup that is open
abbrev pub openable : List Node → Option ℕ → Bool
openable nodes None = true
openable nodes (Some v) = not (is_some (wrong_at nodes v))

-- every entry is zero
abbrev pub Zero : List ℕ → Type 0
Zero xs = xs ≡ replicate (length xs) 0

-- no vertex is marked
abbrev pub Clear : List Bool → Type 0
Clear marks = marks ≡ replicate (length marks) false
