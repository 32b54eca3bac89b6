-- A lookup stands just if it can be opened.
use Rattle.std.proofs.Common.{◌≡◌, ℕ, ◌+◌, ◌<◌, ◌≤◌, Bool, true, false, cond, ltb, List, [], ◌∷◌, map, length, Some, None, Ok, Err, Option, Result, sym, refl, ap, ◌∙◌, arith}
use Rattle.std.proofs.ByRecursion.{All-weaker}
use Rattle.std.proofs.lemmas.Bool.{le-ltb, ltb-false}
use Rattle.std.specs.Option.{option_map}
use Rattle.std.specs.List.{AllByRecursion}
use Rattle.refusal.specs.declared.Part.{Part}
use Rattle.refusal.specs.declared.Part.TheVariants as part
use Rattle.refusal.specs.declared.Refusal.{Refusal}
use Rattle.refusal.specs.declared.Refusal.TheVariants.{SharedPart}
use Rattle.serialize.specs.Objects.{Node, node_at, incoming, SoundObjects}
use Rattle.markbase.specs.declared.fault.PartFault.{PartFault}
use Rattle.markbase.specs.declared.lookup_type.LookupType.{LookupType}
use Rattle.markbase.specs.declared.lookup_type.LookupType.TheVariants.{MarkToBase, Extension}
use Rattle.markbase.specs.declared.parts.TableInfo.{TableInfo}
use Rattle.markbase.specs.Nodes.{read}
use Rattle.markbase.specs.Tables.{subtable, extension}
use Rattle.markbase.specs.Values.{Subtable}
use Rattle.markbase.specs.Parts.{contents_of, subtable_of, info_of}
use Rattle.lookups.specs.Faults.{placed}
use Rattle.lookups.specs.Judging.{shared_or, extension_or, shared_part, wrong_with, or_else, wrong_among, wrong_lookup}
use Rattle.lookups.specs.Tables.{Fields, lookup}
use Rattle.lookups.specs.Values.{also, subtables_from, valued, lookup_from, lookup_of}
use Rattle.pieces.specs.Pieces.{Formed}
use Rattle.splitting.specs.Standing.{Stands}
use Rattle.splitting.specs.Vertices.{top_of, own_vertices}
use Rattle.splitting.proofs.Forming.{Bytes, part_ok, rest_ok, ok_same, formed, worded}

-- what is counted of a subtable
abbrev info : Subtable → TableInfo
info t = record { extension = t.extension; vertex = t.vertex; table = t.table; mark_count = length t.contents.marks; base_count = length t.contents.bases }

-- a part is passed over just if one link at most leads to it
module _ (count : ℕ → ℕ) where
  pass : (p : Part) (v : ℕ) (next : Option Part) → count v ≤ 1 → shared_or count p v next ≡ next
  pass p v next h = ap (λ b. cond b (Some p) next) (le-ltb 1 (count v) h)

  passed : (p : Part) (v : ℕ) (next : Option Part) → shared_or count p v next ≡ None → (count v ≤ 1) × (next ≡ None)
  passed p v next e = by (ltb 1 (count v)) refl e
    where
      by : (b : Bool) → ltb 1 (count v) ≡ b → cond b (Some p) next ≡ None → (count v ≤ 1) × (next ≡ None)
      by true t e = let z : ◌≡◌ {A = ℕ} 0 1 = cc in absurd (omega arith)
      by false t e = (ltb-false 1 (count v) t, e)

  -- the four parts that every subtable has of its own
  abbrev four : ℕ → ℕ → ℕ → ℕ → Option Part
  four v m r b = shared_or count part.Subtable v (shared_or count part.MarkCoverage m (shared_or count part.MarkArray r (shared_or count part.BaseArray b None)))

  pass_four : (v m r b : ℕ) → AllByRecursion (λ u. count u ≤ 1) (v ∷ m ∷ r ∷ b ∷ []) → four v m r b ≡ None
  pass_four v m r b h = pass _ v _ h.0 ∙ (pass _ m _ h.1.0 ∙ (pass _ r _ h.1.1.0 ∙ pass _ b _ h.1.1.1.0))

  passed_four : (v m r b : ℕ) → four v m r b ≡ None → AllByRecursion (λ u. count u ≤ 1) (v ∷ m ∷ r ∷ b ∷ [])
  passed_four v m r b e =
      let one = passed _ v _ e in
      let two = passed _ m _ one.1 in
      let three = passed _ r _ two.1 in
      (one.0, (two.0, (three.0, ((passed _ b _ three.1).0, tt))))

  -- the same with an extension, if there is one
  abbrev own : Option ℕ → ℕ → ℕ → ℕ → ℕ → List ℕ
  own x v m r b = elim x [ None ↦ v ∷ m ∷ r ∷ b ∷ [] | Some e ↦ e ∷ v ∷ m ∷ r ∷ b ∷ [] ]

  pass_own : (x : Option ℕ) (v m r b : ℕ) → AllByRecursion (λ u. count u ≤ 1) (own x v m r b) → extension_or count x (four v m r b) ≡ None
  pass_own None v m r b h = pass_four v m r b h
  pass_own (Some e) v m r b h = pass _ e _ h.0 ∙ pass_four v m r b h.1

  passed_own : (x : Option ℕ) (v m r b : ℕ) → extension_or count x (four v m r b) ≡ None → AllByRecursion (λ u. count u ≤ 1) (own x v m r b)
  passed_own None v m r b h = passed_four v m r b h
  passed_own (Some e) v m r b h = let p = passed _ e _ h in (p.0, passed_four v m r b p.1)

-- no part is shared just if one link at most leads to each
unshared : (count : ℕ → ℕ) (t : Subtable) → AllByRecursion (λ u. count u ≤ 1) (own_vertices t) → shared_part count (info t) ≡ None
unshared count t h = pass_own count t.extension t.vertex t.table.mark_coverage t.table.mark_array t.table.base_array h

once : (count : ℕ → ℕ) (t : Subtable) → shared_part count (info t) ≡ None → AllByRecursion (λ u. count u ≤ 1) (own_vertices t)
once count t e = passed_own count t.extension t.vertex t.table.mark_coverage t.table.mark_array t.table.base_array e

-- where a subtable was read from
top_of_lem : (nodes : List Node) (kind : LookupType) (v : ℕ) (t : Subtable) → subtable_of nodes kind v ≡ Ok t → top_of t ≡ v
top_of_lem nodes MarkToBase v t e =
    let a = part_ok _ (read subtable (node_at nodes v)) _ t e in
    let b = rest_ok (contents_of nodes a.0) _ t a.2 in
    ap top_of (sym (ok_same b.2))
top_of_lem nodes Extension v t e =
    let x = part_ok _ (read extension (node_at nodes v)) _ t e in
    let a = part_ok _ (read subtable (node_at nodes x.0.subtable)) _ t x.2 in
    let b = rest_ok (contents_of nodes a.0) _ t a.2 in
    ap top_of (sym (ok_same b.2))

-- one link at most leads to each part of a subtable's own
abbrev Once : List Node → Subtable → Type 0
Once nodes t = AllByRecursion (λ u. incoming nodes u ≤ 1) (own_vertices t)

-- subtables that are read, with no part shared: nothing is wrong with them, and they are what their offsets lead to
module _ (nodes : List Node) (kind : LookupType) where
  abbrev Reads : Subtable → Type 0
  Reads t = subtable_of nodes kind (top_of t) ≡ Ok t

  none_wrong : (i : ℕ) (ts : List Subtable) → AllByRecursion Reads ts → AllByRecursion (Once nodes) ts → wrong_among nodes kind i (map top_of ts) ≡ None
  none_wrong i [] r o = refl
  none_wrong i (t ∷ ts) r o =
      let rest = none_wrong (i + 1) ts r.1 o.1 in
      let later = wrong_among nodes kind (i + 1) (map top_of ts) in
      ap (λ (x : Result Subtable PartFault). or_else (wrong_with nodes i (info_of x)) later) r.0
      ∙ (ap (λ (x : Option Part). or_else (option_map (SharedPart i) x) later) (unshared (incoming nodes) t o.0) ∙ rest)

  all_read : (i : ℕ) (ts : List Subtable) → AllByRecursion Reads ts → subtables_from nodes kind i (map top_of ts) ≡ Ok ts
  all_read i [] r = refl
  all_read i (t ∷ ts) r = ap (λ (x : Result Subtable PartFault). also (placed i x) (subtables_from nodes kind (i + 1) (map top_of ts))) r.0 ∙ ap (also (Ok t)) (all_read (i + 1) ts r.1)

-- a lookup that stands can be opened, and is read with its fields and its subtables
pub stands_opens : (nodes : List Node) (v : ℕ) (f : Fields) (ts : List Subtable) → Stands nodes v f ts
    → (wrong_lookup nodes (read lookup (node_at nodes v)) ≡ None) × (lookup_of nodes v ≡ Ok record { kind = f.kind; flag = f.flag; subtables = ts })
stands_opens nodes v f ts s = (
  ap (wrong_lookup nodes) s.fields ∙ (ap (wrong_among nodes f.kind 0) s.offsets ∙ none_wrong nodes f.kind 0 ts s.reads s.once),
  ap (lookup_from nodes) s.fields ∙ ap (valued f) (ap (subtables_from nodes f.kind 0) s.offsets ∙ all_read nodes f.kind 0 ts s.reads),
)

-- where nothing is wrong with a subtable and with those behind it: it was read, and no part of it is shared
or_none : (w later : Option Refusal) → or_else w later ≡ None → (w ≡ None) × (later ≡ None)
or_none (Some r) later e = let z : ◌≡◌ {A = ℕ} 0 1 = cc in absurd (omega arith)
or_none None later e = (refl, e)

mapped_none : (i : ℕ) (o : Option Part) → option_map (SharedPart i) o ≡ None → o ≡ None
mapped_none i (Some p) e = let z : ◌≡◌ {A = ℕ} 0 1 = cc in absurd (omega arith)
mapped_none i None e = refl

unbroken : (nodes : List Node) (i : ℕ) (x : Result Subtable PartFault) → wrong_with nodes i (info_of x) ≡ None → (t : Subtable) × (x ≡ Ok t) × (shared_part (incoming nodes) (info t) ≡ None)
unbroken nodes i (Ok t) e = (t, refl, mapped_none i (shared_part (incoming nodes) (info t)) e)
unbroken nodes i (Err f) e = let z : ◌≡◌ {A = ℕ} 0 1 = cc in absurd (omega arith)

-- the subtables that offsets lead to
record Found (nodes : List Node) (kind : LookupType) (vs : List ℕ) : Type 0 where
  ts : List Subtable
  offsets : vs ≡ map top_of ts
  reads : AllByRecursion (Reads nodes kind) ts
  once : AllByRecursion (Once nodes) ts

find : (nodes : List Node) (kind : LookupType) (i : ℕ) (vs : List ℕ) → wrong_among nodes kind i vs ≡ None → Found nodes kind vs
find nodes kind i [] e = record { ts = []; offsets = refl; reads = tt; once = tt }
find nodes kind i (v ∷ vs) e =
    let o = or_none (wrong_with nodes i (info_of (subtable_of nodes kind v))) (wrong_among nodes kind (i + 1) vs) e in
    let u = unbroken nodes i (subtable_of nodes kind v) o.0 in
    let top = top_of_lem nodes kind v u.0 u.1 in
    let rest = find nodes kind (i + 1) vs o.1 in
    record {
      ts = u.0 ∷ rest.ts;
      offsets = λ j. sym top j ∷ rest.offsets j;
      reads = (ap (subtable_of nodes kind) top ∙ u.1, rest.reads);
      once = (once (incoming nodes) u.0 u.2, rest.once);
    }

-- the fields of a lookup with which nothing is wrong
fields_read : (nodes : List Node) (x : Result Fields ℕ) → wrong_lookup nodes x ≡ None → (f : Fields) × (x ≡ Ok f) × (wrong_among nodes f.kind 0 f.offsets ≡ None)
fields_read nodes (Ok f) e = (f, refl, e)
fields_read nodes (Err p) e = let z : ◌≡◌ {A = ℕ} 0 1 = cc in absurd (omega arith)

-- a lookup that no link leads to and that can be opened stands
pub opens_stands : (nodes : List Node) (v : ℕ) → SoundObjects nodes → Bytes nodes → v < length nodes → incoming nodes v ≡ 0 → wrong_lookup nodes (read lookup (node_at nodes v)) ≡ None
    → (f : Fields) × ((ts : List Subtable) × Stands nodes v f ts)
opens_stands nodes v sound low here root e =
    let r = fields_read nodes (read lookup (node_at nodes v)) e in
    let f = r.0 in
    let s = find nodes f.kind 0 f.offsets r.2 in
    let stands : Stands nodes v f s.ts = record {
      sound = sound;
      here = here;
      fields = r.1;
      offsets = s.offsets;
      reads = s.reads;
      root = root;
      once = s.once;
      formed = All-weaker (Reads nodes f.kind) (λ (t : Subtable). Formed t.table.class_count t.contents) (λ t h. formed nodes low f.kind (top_of t) t h) s.ts s.reads;
      words = worded (node_at nodes v) (low v) f r.1;
    } in
    (f, (s.ts, stands))
