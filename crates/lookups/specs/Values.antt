-- A lookup as a value, read with all its subtables.
use Rattle.std.specs.Prelude.{◌≡◌, ℕ, ◌+◌, true, List, [], ◌∷◌, is_ok, Ok, Err, Result}
use Rattle.serialize.specs.Objects.{Node, node_at}
use Rattle.markbase.specs.declared.lookup_type.LookupType.{LookupType}
use Rattle.markbase.specs.Nodes.{node_of, read}
use Rattle.markbase.specs.Values.{Subtable}
use Rattle.markbase.specs.Parts.{subtable_of}
use Rattle.lookups.specs.declared.fault.LookupFault.{LookupFault}
use Rattle.lookups.specs.declared.fault.LookupFault.TheVariants.{BrokenLookup}
use Rattle.lookups.specs.declared.lookup.Lookup.{Lookup}
use Rattle.lookups.specs.Tables.{Fields, lookup}
use Rattle.lookups.specs.Faults.{placed}

-- a lookup: its type, its flag and its subtables
pub record LookupValue : Type 0 where
  pub kind : LookupType
  pub flag : ℕ
  pub subtables : List Subtable

-- one subtable, and then the others
abbrev pub also : Result Subtable LookupFault → Result (List Subtable) LookupFault → Result (List Subtable) LookupFault
also (Ok t) (Ok ts) = Ok (t ∷ ts)
also (Ok t) (Err f) = Err f
also (Err f) rest = Err f

-- the subtables that offsets lead to, the first of which has the place i
abbrev pub subtables_from : List Node → LookupType → ℕ → List ℕ → Result (List Subtable) LookupFault
subtables_from nodes kind i [] = Ok []
subtables_from nodes kind i (v ∷ vs) = also (placed i (subtable_of nodes kind v)) (subtables_from nodes kind (i + 1) vs)

-- a lookup out of its fields and its subtables
abbrev pub valued : Fields → Result (List Subtable) LookupFault → Result LookupValue LookupFault
valued l (Ok ts) = Ok record { kind = l.kind; flag = l.flag; subtables = ts }
valued l (Err f) = Err f

-- the subtables are read after the lookup's own fields
abbrev pub lookup_from : List Node → Result Fields ℕ → Result LookupValue LookupFault
lookup_from nodes (Ok l) = valued l (subtables_from nodes l.kind 0 l.offsets)
lookup_from nodes (Err p) = Err (BrokenLookup p)

-- the lookup at a vertex
abbrev pub lookup_of : List Node → ℕ → Result LookupValue LookupFault
lookup_of nodes v = lookup_from nodes (read lookup (node_at nodes v))

-- the answer says whether a part of a subtable is broken, and the first that is
abbrev pub Accepts : {U : Type 0} → Result (List Subtable) LookupFault → Result U LookupFault → Type 0
Accepts x (Ok u) = is_ok x ≡ true
Accepts x (Err f) = x ≡ Err f

-- the answer is a view of the lookup at a vertex, or why it cannot be read
abbrev pub ReadsAll : List Node → ℕ → Result Lookup LookupFault → Type 0
ReadsAll nodes v (Ok l) = (is_ok (lookup_of nodes v) ≡ true) × (node_of l.vertex ≡ node_at nodes v)
ReadsAll nodes v (Err f) = lookup_of nodes v ≡ Err f
