-- Which lookups can be opened.
use Rattle.std.specs.Prelude.{◌≡◌, ℕ, ◌+◌, cond, List, [], ◌∷◌, length, Some, None, Ok, Err, Option, Result, nat_lt, slice_index}
use Rattle.std.specs.Option.{option_map}
use Rattle.refusal.specs.declared.Part.{Part}
use Rattle.refusal.specs.declared.Part.TheVariants as part
use Rattle.refusal.specs.declared.Refusal.{Refusal}
use Rattle.refusal.specs.declared.Refusal.TheVariants.{BrokenLookup, BrokenPart, SharedPart}
use Rattle.serialize.specs.Objects.{Node, incoming}
use Rattle.markbase.specs.declared.fault.PartFault.{PartFault}
use Rattle.markbase.specs.declared.parts.TableInfo.{TableInfo}
use Rattle.markbase.specs.declared.lookup_type.LookupType.{LookupType}
use Rattle.markbase.specs.Parts.{subtable_of, info_of}
use Rattle.lookups.specs.Tables.{Fields}
use Rattle.lookups.specs.Views.{offsets_in}

-- a part that has more than one incoming link, or else what comes after it
abbrev pub shared_or : (ℕ → ℕ) → Part → ℕ → Option Part → Option Part
shared_or count p v next = cond (nat_lt 1 (count v)) (Some p) next

-- the same of an extension, if there is one
abbrev pub extension_or : (ℕ → ℕ) → Option ℕ → Option Part → Option Part
extension_or count None next = next
extension_or count (Some v) next = shared_or count part.Extension v next

-- the lowest part, the base coverage aside, that has more than one incoming link by this count
abbrev pub shared_part : (ℕ → ℕ) → TableInfo → Option Part
shared_part count t =
    extension_or count t.extension
    (shared_or count part.Subtable t.vertex
    (shared_or count part.MarkCoverage t.table.mark_coverage
    (shared_or count part.MarkArray t.table.mark_array (shared_or count part.BaseArray t.table.base_array None))))

-- what is wrong with a subtable that was read, or could not be
abbrev pub wrong_with : List Node → ℕ → Result TableInfo PartFault → Option Refusal
wrong_with nodes i (Err f) = Some (BrokenPart i f.part f.place)
wrong_with nodes i (Ok t) = option_map (SharedPart i) (shared_part (incoming nodes) t)

-- the first that is wrong, or else what comes after it
abbrev pub or_else : Option Refusal → Option Refusal → Option Refusal
or_else (Some e) next = Some e
or_else None next = next

-- the first subtable, from place i on, with which something is wrong
abbrev pub wrong_among : List Node → LookupType → ℕ → List ℕ → Option Refusal
wrong_among nodes kind i [] = None
wrong_among nodes kind i (v ∷ vs) = or_else (wrong_with nodes i (info_of (subtable_of nodes kind v))) (wrong_among nodes kind (i + 1) vs)

-- what is wrong with a lookup: a field of its own, or a subtable
abbrev pub wrong_lookup : List Node → Result Fields ℕ → Option Refusal
wrong_lookup nodes (Err p) = Some (BrokenLookup p)
wrong_lookup nodes (Ok l) = wrong_among nodes l.kind 0 l.offsets

-- the answer to a lookup that is judged: the number of its subtables, or what is wrong
abbrev pub Judges : List Node → Result Fields ℕ → Result ℕ Refusal → Type 0
Judges nodes x (Err e) = wrong_lookup nodes x ≡ Some e
Judges nodes x (Ok n) = (wrong_lookup nodes x ≡ None) × (n ≡ length (offsets_in x))

-- the answer to one subtable
abbrev pub Passes : {U : Type 0} → Option Refusal → Result U Refusal → Type 0
Passes wrong (Err e) = wrong ≡ Some e
Passes wrong (Ok u) = wrong ≡ None

-- a list of the incoming links of every vertex
abbrev pub Counted : List Node → List ℕ → Type 0
Counted nodes counts = (v : ℕ) → slice_index counts v ≡ incoming nodes v
