-- The hits of subtables that were read, one subtable after the other.
use Rattle.std.proofs.Common.{◌≡◌, ℕ, zero, suc, ◌+◌, ◌<◌, true, List, [], ◌∷◌, length, get_or, MatchOption, is_ok, Some, None, Ok, Err, Option, Result, sym, refl, ap, ◌∙◌, arith}
use Rattle.std.proofs.lemmas.Bool.{true≢false}
use Rattle.serialize.specs.Objects.{Node}
use Rattle.markbase.specs.declared.fault.PartFault.{PartFault}
use Rattle.markbase.specs.declared.hits.Hit.{Hit}
use Rattle.markbase.specs.declared.lookup_type.LookupType.{LookupType}
use Rattle.markbase.specs.Values.{Subtable}
use Rattle.markbase.specs.Parts.{subtable_of}
use Rattle.markbase.specs.Hits.{hit_of}
use Rattle.lookups.specs.declared.fault.LookupFault.{LookupFault}
use Rattle.lookups.specs.Tables.{Fields}
use Rattle.lookups.specs.Faults.{placed}
use Rattle.lookups.specs.Values.{also, subtables_from, valued}
use Rattle.lookups.specs.Hits.{joined, hits_in, first, attach_in, contents_in}

-- the hits of subtables that were read
abbrev pub hits_of : Result (List Subtable) LookupFault → ℕ → ℕ → List Hit
hits_of (Ok ts) m b = hits_in ts m b
hits_of (Err f) m b = []

pub attach_is : (f : Fields) (x : Result (List Subtable) LookupFault) (m b : ℕ) → attach_in (valued f x) m b ≡ first (hits_of x m b)
attach_is f (Ok ts) m b = refl
attach_is f (Err g) m b = refl

-- one subtable and the others: both were read, and the hit of the first comes first
also_known : (i : ℕ) (x : Result Subtable PartFault) (xs : Result (List Subtable) LookupFault) (m b : ℕ) → is_ok (also (placed i x) xs) ≡ true
    → (is_ok x ≡ true) × (is_ok xs ≡ true) × (hits_of (also (placed i x) xs) m b ≡ joined (hit_of (contents_in x) m b) (hits_of xs m b))
also_known i (Ok t) (Ok ts) m b e = (refl, refl, refl)
also_known i (Ok t) (Err f) m b e = absurd (true≢false (sym e))
also_known i (Err f) xs m b e = absurd (true≢false (sym e))

module _ (nodes : List Node) (kind : LookupType) (m b : ℕ) where
  -- the hit in the subtable that the offset at a place leads to
  abbrev pub hit_at : List ℕ → ℕ → Option Hit
  hit_at vs i = hit_of (contents_in (subtable_of nodes kind (get_or vs i 0))) m b

  next_known : (j v : ℕ) (vs : List ℕ) → is_ok (subtables_from nodes kind j (v ∷ vs)) ≡ true
      → (is_ok (subtable_of nodes kind v) ≡ true) × (is_ok (subtables_from nodes kind (j + 1) vs) ≡ true)
      × (hits_of (subtables_from nodes kind j (v ∷ vs)) m b ≡ joined (hit_of (contents_in (subtable_of nodes kind v)) m b) (hits_of (subtables_from nodes kind (j + 1) vs) m b))
  next_known j v vs ok = also_known j (subtable_of nodes kind v) (subtables_from nodes kind (j + 1) vs) m b ok

  -- each of the subtables that were read was read
  pub known_at : (j : ℕ) (vs : List ℕ) (i : ℕ) → is_ok (subtables_from nodes kind j vs) ≡ true → i < length vs → is_ok (subtable_of nodes kind (get_or vs i 0)) ≡ true
  known_at j [] i ok lt = absurd (omega arith)
  known_at j (v ∷ vs) zero ok lt = (next_known j v vs ok).0
  known_at j (v ∷ vs) (suc i) ok lt = known_at (j + 1) vs i (next_known j v vs ok).1 (omega arith)

  -- the first hit is that of the first subtable that has one
  first_hit : (j : ℕ) (vs : List ℕ) (i : ℕ) (h : Hit) → is_ok (subtables_from nodes kind j vs) ≡ true → i < length vs → hit_at vs i ≡ Some h → ((k : ℕ) → k < i → hit_at vs k ≡ None) → Some h ≡ first (hits_of (subtables_from nodes kind j vs) m b)
  first_hit j [] i h ok lt is before = absurd (omega arith)
  first_hit j (v ∷ vs) zero h ok lt is before =
      let n = next_known j v vs ok in
      sym (ap first n.2 ∙ ap (λ o. first (joined o (hits_of (subtables_from nodes kind (j + 1) vs) m b))) is)
  first_hit j (v ∷ vs) (suc i) h ok lt is before =
      let n = next_known j v vs ok in
      first_hit (j + 1) vs i h n.1 (omega arith) is (λ k lt. before (suc k) (omega arith))
      ∙ sym (ap first n.2 ∙ ap (λ o. first (joined o (hits_of (subtables_from nodes kind (j + 1) vs) m b))) (before 0 (omega arith)))

  no_hit : (j : ℕ) (vs : List ℕ) → is_ok (subtables_from nodes kind j vs) ≡ true → ((k : ℕ) → k < length vs → hit_at vs k ≡ None) → None ≡ first (hits_of (subtables_from nodes kind j vs) m b)
  no_hit j [] ok each = refl
  no_hit j (v ∷ vs) ok each =
      let n = next_known j v vs ok in
      no_hit (j + 1) vs n.1 (λ k lt. each (suc k) (omega arith))
      ∙ sym (ap first n.2 ∙ ap (λ o. first (joined o (hits_of (subtables_from nodes kind (j + 1) vs) m b))) (each 0 (omega arith)))

  -- what a search through the places finds
  pub found_first : (vs : List ℕ) (n : ℕ) (r : Option Hit) → is_ok (subtables_from nodes kind 0 vs) ≡ true → length vs ≡ n
      → MatchOption r ((k : ℕ) → k < n → hit_at vs k ≡ None) (λ h. (i : ℕ) × (i < n) × (hit_at vs i ≡ Some h) × ((k : ℕ) → k < i → hit_at vs k ≡ None)) → r ≡ first (hits_of (subtables_from nodes kind 0 vs) m b)
  found_first vs n None ok many each = no_hit 0 vs ok (λ k lt. each k (omega arith))
  found_first vs n (Some h) ok many f = first_hit 0 vs f.0 h ok (omega (arith, f.1)) f.2 f.3
