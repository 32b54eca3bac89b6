-- Opening and closing a lookup.
use Rattle.std.specs.Prelude.{◌≡◌, ℕ, List, length, Some, None, Ok, Err, Option, Result}
use Rattle.refusal.specs.declared.Refusal.{Refusal}
use Rattle.refusal.specs.declared.Refusal.TheVariants.{LookupOpen, NothingOpen}
use Rattle.serialize.specs.Objects.{Node, node_at}
use Rattle.markbase.specs.Nodes.{read}
use Rattle.lookups.specs.Tables.{lookup}
use Rattle.lookups.specs.Views.{offsets_in}
use Rattle.workspace.specs.Rest.{wrong_at}
use Rattle.workspace.specs.Model.{Model}

-- the same objects, with this lookup open or none
abbrev pub with_lookup : Model → Option ℕ → Model
with_lookup m o = record { graph = m.graph; lists = m.lists; loaded = m.loaded; lookup = o }

-- why `open` is refused: a lookup is open, or something is wrong with this one
abbrev pub open_refusal : Model → ℕ → Option Refusal
open_refusal m v = elim m.lookup [ Some u ↦ Some (LookupOpen u) | None ↦ wrong_at m.graph.nodes v ]

-- how many subtables a lookup has
abbrev pub subtable_count : Model → ℕ → ℕ
subtable_count m v = length (offsets_in (read lookup (node_at m.graph.nodes v)))

-- the answer where no lookup is open
abbrev pub Judged : List Node → ℕ → Result ℕ Refusal → Type 0
Judged nodes v (Ok n) = (wrong_at nodes v ≡ None) × (n ≡ length (offsets_in (read lookup (node_at nodes v))))
Judged nodes v (Err e) = wrong_at nodes v ≡ Some e

-- what `open` answers, with the model before it and after; a refusal changes nothing
abbrev pub Opens : Model → ℕ → Result ℕ Refusal → Model → Type 0
Opens m v (Ok n) m' = (open_refusal m v ≡ None) × (n ≡ subtable_count m v) × (m' ≡ with_lookup m (Some v))
Opens m v (Err e) m' = (open_refusal m v ≡ Some e) × (m' ≡ m)

-- why a call on the open lookup is refused: there is none
abbrev pub none_open : Option ℕ → Option Refusal
none_open (Some v) = None
none_open None = Some NothingOpen

-- what `close` answers, with the model before it and after
abbrev pub Closes : Model → Result ℕ Refusal → Model → Type 0
Closes m (Ok n) m' = (none_open m.lookup ≡ None) × (n ≡ 0) × (m' ≡ with_lookup m None)
Closes m (Err e) m' = (none_open m.lookup ≡ Some e) × (m' ≡ m)
