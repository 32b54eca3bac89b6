-- The subtables of a lookup, one after the other.
use Rattle.std.proofs.Common.{◌≡◌, ℕ, ◌+◌, ◌<◌, true, List, length, get_or, drop, is_ok, Some, None, Ok, Err, Option, Result, sym, refl, ap, ◌∙◌, add-one, arith, drop-cons}
use Rattle.serialize.specs.Objects.{Node}
use Rattle.markbase.specs.declared.lookup_type.LookupType.{LookupType}
use Rattle.markbase.specs.declared.fault.PartFault.{PartFault}
use Rattle.markbase.specs.declared.parts.TableInfo.{TableInfo}
use Rattle.markbase.specs.Values.{Subtable}
use Rattle.markbase.specs.Parts.{subtable_of, info_of}
use Rattle.lookups.specs.declared.fault.LookupFault.{LookupFault}
use Rattle.lookups.specs.declared.lookup.LookupHead.{LookupHead}
use Rattle.lookups.specs.Faults.{placed}
use Rattle.lookups.specs.Values.{also, subtables_from}

-- why something was not read, if it was not
abbrev pub fault_of : {A : Type 0} → Result A LookupFault → Option LookupFault
fault_of (Ok a) = None
fault_of (Err f) = Some f

pub no_fault : {A : Type 0} (x : Result A LookupFault) → fault_of x ≡ None → is_ok x ≡ true
no_fault (Ok a) e = refl
no_fault (Err f) e = let z : ◌≡◌ {A = ℕ} 0 1 = cc in absurd (omega arith)

pub a_fault : {A : Type 0} (x : Result A LookupFault) (f : LookupFault) → fault_of x ≡ Some f → x ≡ Err f
a_fault (Ok a) f e = let z : ◌≡◌ {A = ℕ} 0 1 = cc in absurd (omega arith)
a_fault (Err g) f e = let s : g ≡ f = cc in ap Err s

fault_also : (t : Subtable) (x : Result (List Subtable) LookupFault) → fault_of (also (Ok t) x) ≡ fault_of x
fault_also t (Ok ts) = refl
fault_also t (Err f) = refl

-- the same fault, whether the subtable or only its numbers were wanted
fault_placed : (i : ℕ) (x : Result Subtable PartFault) (rest : Result (List Subtable) LookupFault) (r : Result TableInfo PartFault) → r ≡ info_of x
    → ((a : TableInfo) → Ok a ≡ placed i r → fault_of (also (placed i x) rest) ≡ fault_of rest) × ((f : LookupFault) → Err f ≡ placed i r → fault_of (also (placed i x) rest) ≡ Some f)
fault_placed i (Ok t) rest r e = (λ a h. fault_also t rest, λ f h. let k = h ∙ ap (placed i) e in let z : ◌≡◌ {A = ℕ} 0 1 = cc in absurd (omega arith))
fault_placed i (Err g) rest r e = (λ a h. let k = h ∙ ap (placed i) e in let z : ◌≡◌ {A = ℕ} 0 1 = cc in absurd (omega arith), λ f h. let k = h ∙ ap (placed i) e in ap fault_of (sym k))

-- what was read, by an equal type and an equal vertex
pub same_read : (nodes : List Node) (h h' : LookupHead) (v v' : ℕ) (r : Result TableInfo PartFault) → r ≡ info_of (subtable_of nodes h.kind v) → h ≡ h' → v ≡ v' → r ≡ info_of (subtable_of nodes h'.kind v')
same_read nodes h h' v v' r e p q = e ∙ (λ i. info_of (subtable_of nodes (p i).kind (q i)))

module _ (nodes : List Node) (kind : LookupType) (vs : List ℕ) (i : ℕ) (lt : i < length vs) where
  pub from_next : subtables_from nodes kind i (drop i vs) ≡ also (placed i (subtable_of nodes kind (get_or vs i 0))) (subtables_from nodes kind (i + 1) (drop (i + 1) vs))
  from_next = ap (subtables_from nodes kind i) (drop-cons vs i 0 lt) ∙ ap (λ n. also (placed i (subtable_of nodes kind (get_or vs i 0))) (subtables_from nodes kind (i + 1) (drop n vs))) (sym (add-one i))

  module _ (r : Result TableInfo PartFault) (e : r ≡ info_of (subtable_of nodes kind (get_or vs i 0))) where
    pub stops : (f : LookupFault) → Err f ≡ placed i r → fault_of (subtables_from nodes kind i (drop i vs)) ≡ Some f
    stops f h = ap fault_of from_next ∙ (fault_placed i (subtable_of nodes kind (get_or vs i 0)) (subtables_from nodes kind (i + 1) (drop (i + 1) vs)) r e).1 f h
