-- The calls that cut and extend, on objects: the lookup at v is the open one.
use Rattle.std.specs.Prelude.{ℕ, cond, ◌&&◌, List, [], length, take, drop, Some, None, Ok, Err, Option, Result, nat_le, nat_lt}
use Rattle.std.specs.Option.{option_map}
use Rattle.refusal.specs.declared.Refusal.{Refusal}
use Rattle.refusal.specs.declared.Refusal.TheVariants.{NoSubtable, BadReach, NoRoom, AlreadyExtended}
use Rattle.serialize.specs.Objects.{Node, node_at}
use Rattle.graph.specs.Model.{Model}
use Rattle.markbase.specs.declared.lookup_type.LookupType.{LookupType}
use Rattle.markbase.specs.declared.lookup_type.LookupType.TheVariants.{MarkToBase, Extension}
use Rattle.markbase.specs.Nodes.{read}
use Rattle.markbase.specs.Values.{Subtable}
use Rattle.lookups.specs.declared.fault.LookupFault.{LookupFault}
use Rattle.lookups.specs.Tables.{Fields, lookup}
use Rattle.lookups.specs.Values.{LookupValue, lookup_of}
use Rattle.lookups.specs.Judging.{or_else}
use Rattle.splitting.specs.Vertices.{Meaning}
use Rattle.splitting.specs.Cuts.{Plan, too_large, cut_each, cut_one}
use Rattle.splitting.specs.Leaving.{left_by, extended_by}
use Rattle.splitting.specs.Needs.{Need, need_of, extend_need, short_of, grown_to}

-- the fields of a lookup that was read
abbrev pub fields_in : Result Fields ℕ → Fields
fields_in (Ok f) = f
fields_in (Err p) = record { kind = MarkToBase; flag = 0; offsets = []; filter = [] }

-- the fields of the lookup at a vertex
abbrev pub fields_at : List Node → ℕ → Fields
fields_at nodes v = fields_in (read lookup (node_at nodes v))

-- the subtables of a lookup that was read
abbrev pub subtables_in : Result LookupValue LookupFault → List Subtable
subtables_in (Ok l) = l.subtables
subtables_in (Err f) = []

-- the subtables of the lookup at a vertex
abbrev pub subtables_at : List Node → ℕ → List Subtable
subtables_at nodes v = subtables_in (lookup_of nodes v)

-- there is no subtable at a place
abbrev pub bad_place : ℕ → ℕ → Option Refusal
bad_place place count = cond (nat_lt place count) None (Some (NoSubtable count))

-- a reach is 1 at least and 65,535 at most
abbrev pub bad_reach : ℕ → Option Refusal
bad_reach reach = cond (nat_le 1 reach && nat_le reach 65535) None (Some (BadReach reach))

-- there is no room for what is needed
abbrev pub no_room : Model → Need → Option Refusal
no_room g need = option_map (λ s. NoRoom s) (short_of g need)

-- how `split` cuts: the subtable at a place, into longest runs
abbrev pub split_plan : Model → ℕ → ℕ → ℕ → Plan
split_plan g v place reach = cut_one g.nodes reach place (subtables_at g.nodes v)

-- how split-all cuts: every subtable, into longest runs
abbrev pub split_all_plan : Model → ℕ → ℕ → Plan
split_all_plan g v reach = cut_each g.nodes reach (subtables_at g.nodes v)

-- what cutting as planned needs
abbrev pub cut_need : Meaning → Model → ℕ → Plan → Need
cut_need w g v plan = need_of w g.nodes v (fields_at g.nodes v) plan

-- the objects after cutting as planned
abbrev pub cut_by : Meaning → Model → ℕ → Plan → Model
cut_by w g v plan = grown_to g (left_by w g.nodes v (fields_at g.nodes v) plan) (cut_need w g v plan)

-- why `split` is refused: no such subtable, no such reach, a class alone exceeds it, no room
abbrev pub split_refusal : Meaning → Model → ℕ → ℕ → ℕ → Option Refusal
split_refusal w g v place reach =
    let ts = subtables_at g.nodes v in
    or_else (bad_place place (length ts))
    (or_else (bad_reach reach) (or_else (too_large g.nodes reach place (take 1 (drop place ts))) (no_room g (cut_need w g v (split_plan g v place reach)))))

-- why split-all is refused: no such reach, a class alone exceeds it, no room
abbrev pub split_all_refusal : Meaning → Model → ℕ → ℕ → Option Refusal
split_all_refusal w g v reach = or_else (bad_reach reach) (or_else (too_large g.nodes reach 0 (subtables_at g.nodes v)) (no_room g (cut_need w g v (split_all_plan g v reach))))

-- a lookup of type 9 has extensions
abbrev pub has_extensions : LookupType → Option Refusal
has_extensions MarkToBase = None
has_extensions Extension = Some AlreadyExtended

-- why `extend` is refused: there are extensions, or no room
abbrev pub extend_refusal : Model → ℕ → Option Refusal
extend_refusal g v = or_else (has_extensions (fields_at g.nodes v).kind) (no_room g (extend_need (subtables_at g.nodes v)))

-- the objects after extending
abbrev pub extended : Model → ℕ → Model
extended g v = let ts = subtables_at g.nodes v in grown_to g (extended_by g.nodes v (fields_at g.nodes v) ts) (extend_need ts)
