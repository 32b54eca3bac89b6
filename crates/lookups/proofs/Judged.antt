-- What is wrong with a subtable, from what was read and counted.
use Rattle.std.proofs.Common.{◌≡◌, ℕ, ◌+◌, ◌<◌, true, List, [], ◌∷◌, length, get_or, drop, is_ok, Some, None, Ok, Err, Option, Result, sym, refl, ap, ◌∙◌, arith}
use Rattle.std.proofs.lemmas.List.{at_drop_more}
use Rattle.std.specs.Option.{option_map}
use Rattle.refusal.specs.declared.Part.{Part}
use Rattle.refusal.specs.declared.Refusal.{Refusal}
use Rattle.refusal.specs.declared.Refusal.TheVariants.{SharedPart}
use Rattle.serialize.specs.Objects.{Node, incoming}
use Rattle.markbase.specs.declared.fault.PartFault.{PartFault}
use Rattle.markbase.specs.declared.lookup_type.LookupType.{LookupType}
use Rattle.markbase.specs.Parts.{subtable_of, info_of}
use Rattle.markbase.specs.declared.parts.TableInfo.{TableInfo}
use Rattle.lookups.specs.Judging.{shared_part, wrong_with, or_else, wrong_among, wrong_lookup}
use Rattle.lookups.specs.declared.lookup.LookupHead.{LookupHead}
use Rattle.markbase.specs.Nodes.{node_of, read}
use Rattle.lookups.specs.declared.lookup.Lookup.{Lookup}
use Rattle.lookups.specs.Tables.{Fields, lookup, head_of}
use Rattle.lookups.specs.Views.{offsets_in, offsets_of}
use Rattle.lookups.proofs.Offsets.{head_found, offsets_count, valued_ok}
use Rattle.markbase.specs.Values.{Subtable}
use Rattle.lookups.specs.declared.fault.LookupFault.{LookupFault}
use Rattle.lookups.specs.Faults.{placed}
use Rattle.lookups.specs.Values.{also, subtables_from, lookup_from}

placed_ok : (i : ℕ) (x : Result TableInfo PartFault) (t : TableInfo) → placed i x ≡ Ok t → x ≡ Ok t
placed_ok i (Ok s) t e = cc
placed_ok i (Err f) t e = let z : ◌≡◌ {A = ℕ} 0 1 = cc in absurd (omega arith)

-- a subtable that could be read: only a shared part is wrong with it
pub wrong_read : (nodes : List Node) (i : ℕ) (x : Result TableInfo PartFault) (y : Result TableInfo LookupFault) (t : TableInfo) (o : Option Part)
    → y ≡ placed i x → y ≡ Ok t → o ≡ shared_part (incoming nodes) t → wrong_with nodes i x ≡ option_map (SharedPart i) o
wrong_read nodes i x y t o p q s = ap (wrong_with nodes i) (placed_ok i x t (sym p ∙ q)) ∙ ap (option_map (SharedPart i)) (sym s)

-- what is wrong from a place on, where the subtable there is known
pub wrong_next : (nodes : List Node) (kind kind' : LookupType) (vs : List ℕ) (i i' v : ℕ) (w : Option Refusal) → i < length vs → i' ≡ i → kind' ≡ kind → v ≡ get_or vs i 0
    → wrong_with nodes i' (info_of (subtable_of nodes kind' v)) ≡ w → wrong_among nodes kind i (drop i vs) ≡ or_else w (wrong_among nodes kind (i + 1) (drop (i + 1) vs))
wrong_next nodes kind kind' vs i i' v w lt ei ek ev is =
    at_drop_more (wrong_among nodes kind i) vs i 0 lt
    ∙ ap (λ (o : Option Refusal). or_else o (wrong_among nodes kind (i + 1) (drop (i + 1) vs)))
    (ap (λ (x : ℕ). wrong_with nodes i (info_of (subtable_of nodes kind x))) (sym ev)
    ∙ (ap (λ (k : LookupType). wrong_with nodes i (info_of (subtable_of nodes k v))) (sym ek) ∙ (ap (λ (j : ℕ). wrong_with nodes j (info_of (subtable_of nodes kind' v))) (sym ei) ∙ is)))

-- what is wrong with a lookup that was read is what is wrong with its subtables
pub wrong_fields : (nodes : List Node) (x : Result Fields ℕ) (h : LookupHead) → head_of x ≡ Ok h → wrong_lookup nodes x ≡ wrong_among nodes h.kind 0 (offsets_in x)
wrong_fields nodes x h e =
    let f = head_found x h e in
    ap (wrong_lookup nodes) f.is ∙ (ap (λ (k : LookupType). wrong_among nodes k 0 f.fields.offsets) f.kind ∙ ap (λ (y : Result Fields ℕ). wrong_among nodes h.kind 0 (offsets_in y)) (sym f.is))

-- the same of a view of a vertex
module _ (nodes : List Node) (l : Lookup) (x : Node) (is : node_of l.vertex ≡ x) where
  pub wrong_view : wrong_lookup nodes (read lookup x) ≡ wrong_among nodes l.head.kind 0 (offsets_of l)
  unfolding offsets_of
  wrong_view = ap (λ (y : Node). wrong_lookup nodes (read lookup y)) (sym is) ∙ wrong_fields nodes (read lookup (node_of l.vertex)) l.head l.stands

  pub count_view : length (offsets_in (read lookup x)) ≡ l.head.count
  unfolding offsets_of
  count_view = ap (λ (y : Node). length (offsets_in (read lookup y))) (sym is) ∙ offsets_count l

-- where nothing is wrong with a subtable and with those behind it, they can be read
one_more : (nodes : List Node) (i : ℕ) (s : Result Subtable PartFault) (later : Result (List Subtable) LookupFault) (o : Option Refusal)
    → or_else (wrong_with nodes i (info_of s)) o ≡ None → (o ≡ None → is_ok later ≡ true) → is_ok (also (placed i s) later) ≡ true
one_more nodes i (Err f) later o e k = let z : ◌≡◌ {A = ℕ} 0 1 = cc in absurd (omega arith)
one_more nodes i (Ok t) later o e k = by (option_map (SharedPart i) (shared_part (incoming nodes) (info t))) later e k
  where
    info : Subtable → TableInfo
    info t = record { extension = t.extension; vertex = t.vertex; table = t.table; mark_count = length t.contents.marks; base_count = length t.contents.bases }

    by : (w : Option Refusal) (later : Result (List Subtable) LookupFault) → or_else w o ≡ None → (o ≡ None → is_ok later ≡ true) → is_ok (also (Ok t) later) ≡ true
    by (Some x) later e k = let z : ◌≡◌ {A = ℕ} 0 1 = cc in absurd (omega arith)
    by None (Ok ts) e k = refl
    by None (Err f) e k = k e

all_read : (nodes : List Node) (kind : LookupType) (i : ℕ) (vs : List ℕ) → wrong_among nodes kind i vs ≡ None → is_ok (subtables_from nodes kind i vs) ≡ true
all_read nodes kind i [] e = refl
all_read nodes kind i (v ∷ vs) e = one_more nodes i (subtable_of nodes kind v) (subtables_from nodes kind (i + 1) vs) (wrong_among nodes kind (i + 1) vs) e (all_read nodes kind (i + 1) vs)

pub nothing_wrong : (nodes : List Node) (x : Result Fields ℕ) → wrong_lookup nodes x ≡ None → is_ok (lookup_from nodes x) ≡ true
nothing_wrong nodes (Ok l) e = valued_ok l (subtables_from nodes l.kind 0 l.offsets) ∙ all_read nodes l.kind 0 l.offsets e
nothing_wrong nodes (Err p) e = let z : ◌≡◌ {A = ℕ} 0 1 = cc in absurd (omega arith)
