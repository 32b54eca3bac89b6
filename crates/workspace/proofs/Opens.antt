-- Judging a vertex by the counts of incoming links.
use Rattle.std.proofs.Common.{◌≡◌, ℕ, ◌<◌, ◌≤◌, Bool, true, false, cond, not, List, map, length, get_or, replicate, is_some, is_ok, Some, None, Ok, Err, Option, Result, sym, refl, ap, ◌∙◌, subst, inl, inr, arith}
use Rattle.std.specs.List.{range_with_len}
use Rattle.std.proofs.lemmas.List.{get_or_past, length-replicate}
use Rattle.std.proofs.lemmas.List.FromFn.{length-map-range_with_len, get_or-map-range_with_len}
use Rattle.std.proofs.lemmas.Bool.{cases_lt, lt-ltb, le-ltb, eq-eqb, ne_eqb}
use Rattle.refusal.specs.declared.Refusal.{Refusal}
use Rattle.refusal.specs.declared.Refusal.TheVariants.{NoLookup, LookupOpen}
use Rattle.serialize.specs.Objects.{Node, node_at, incoming, all_links, SoundObjects}
use Rattle.graph.proofs.Counts.{children_in, none_lead}
use Rattle.markbase.specs.Nodes.{read}
use Rattle.lookups.specs.Tables.{lookup}
use Rattle.lookups.specs.Judging.{Counted, wrong_lookup, Judges}
use Rattle.lookups.specs.Values.{lookup_of}
use Rattle.lookups.proofs.Judged.{nothing_wrong}
use Rattle.workspace.specs.Rest.{wrong_at, openable, Zero}
use Rattle.workspace.specs.Opening.{Judged, open_refusal}
use Rattle.workspace.specs.Model.{view}
use Rattle.workspace.specs.declared.state.Workspace.{Workspace}
use Rattle.graph.specs.Model.{view as objects}

-- the list counts the incoming links of every vertex, and of what is none
pub counted : (nodes : List Node) (counts : List ℕ) (n : ℕ) → SoundObjects nodes → length nodes ≤ n → counts ≡ map (incoming nodes) (range_with_len 0 n) → Counted nodes counts
counted nodes counts n sound long is v =
    elim (cases_lt v n) [
      | inl less ↦ ap (λ (xs : List ℕ). get_or xs v 0) is ∙ get_or-map-range_with_len (incoming nodes) 0 n v v 0 less (omega arith)
      | inr more ↦
          get_or_past counts v 0 (omega (arith, ap length is, length-map-range_with_len (incoming nodes) 0 n))
          ∙ sym (none_lead (all_links nodes) (length nodes) v (children_in nodes sound) (omega arith))
    ]

-- a vertex without incoming links is judged as a lookup, and any other is none
module _ (nodes : List Node) (v : ℕ) (in' : v < length nodes) where
  pub judged_as : incoming nodes v ≡ 0 → wrong_at nodes v ≡ wrong_lookup nodes (read lookup (node_at nodes v))
  unfolding wrong_at
  judged_as none = let a = lt-ltb v (length nodes) in' in let b = eq-eqb (incoming nodes v) 0 none in rw (a, b)

  pub no_lookup : (incoming nodes v ≡ 0 → ⊥) → wrong_at nodes v ≡ Some NoLookup
  unfolding wrong_at
  no_lookup some = let a = lt-ltb v (length nodes) in' in let b = ne_eqb (incoming nodes v) 0 some in rw (a, b)

  pub judged_way : (r : Result ℕ Refusal) → incoming nodes v ≡ 0 → Judges nodes (read lookup (node_at nodes v)) r → Judged nodes v r
  judged_way (Ok n) none j = (judged_as none ∙ j.0, j.1)
  judged_way (Err e) none j = judged_as none ∙ j

-- an open lookup can be read
none_of : (o : Option Refusal) → not (is_some o) ≡ true → o ≡ None
none_of None e = refl
none_of (Some x) e = let z : ◌≡◌ {A = ℕ} 0 1 = cc in absurd (omega arith)

cond_none : (b : Bool) (o : Option Refusal) → cond b o (Some NoLookup) ≡ None → o ≡ None
cond_none true o e = e
cond_none false o e = let z : ◌≡◌ {A = ℕ} 0 1 = cc in absurd (omega arith)

pub readable : (nodes : List Node) (v : ℕ) (o : Option ℕ) → openable nodes o ≡ true → o ≡ Some v → is_ok (lookup_of nodes v) ≡ true
unfolding wrong_at
readable nodes v o e is =
    let w = subst (λ (x : Option ℕ). openable nodes x ≡ true) is e in
    nothing_wrong nodes (read lookup (node_at nodes v)) (cond_none _ (wrong_lookup nodes (read lookup (node_at nodes v))) (none_of (wrong_at nodes v) w))

-- past the vertices there is no lookup
pub past_vertices : (nodes : List Node) (v : ℕ) → length nodes ≤ v → wrong_at nodes v ≡ Some NoLookup
unfolding wrong_at
past_vertices nodes v h = let a = le-ltb v (length nodes) h in rw a

-- why `open` is refused, from the state
pub open_refused : (w : Workspace) (v u : ℕ) → w.lookup ≡ Some u → open_refusal (view w) v ≡ Some (LookupOpen u)
unfolding view
open_refused w v u is = ap (λ (x : Option ℕ). elim x [ Some y ↦ Some (LookupOpen y) | None ↦ wrong_at (objects w.graph).nodes v ]) is

pub open_free : (w : Workspace) (v : ℕ) → w.lookup ≡ None → open_refusal (view w) v ≡ wrong_at (objects w.graph).nodes v
unfolding view
open_free w v is = ap (λ (x : Option ℕ). elim x [ Some y ↦ Some (LookupOpen y) | None ↦ wrong_at (objects w.graph).nodes v ]) is

-- a list of n zeros has n entries, and is zero
pub all_zero : (xs : List ℕ) (n : ℕ) → xs ≡ replicate n 0 → (length xs ≡ n) × Zero xs
all_zero xs n z = let e = ap length z ∙ length-replicate n 0 in (e, z ∙ ap (λ (k : ℕ). replicate k 0) (sym e))

-- a lookup with which nothing is wrong can be the open one
pub opens_well : (nodes : List Node) (v : ℕ) → wrong_at nodes v ≡ None → openable nodes (Some v) ≡ true
opens_well nodes v e = ap (λ (o : Option Refusal). not (is_some o)) e
