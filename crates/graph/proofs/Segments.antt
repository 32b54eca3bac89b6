-- The records of one vertex: they stand together.
use Rattle.std.proofs.Common.{◌≡◌, ℕ, zero, suc, ◌+◌, ◌-◌, ◌<◌, ◌≤◌, Bool, true, false, eqb, ltb, List, [], ◌∷◌, length, get_or, filter, refl, ap, ◌∙◌, inl, inr, arith}
use Rattle.std.proofs.lemmas.List.Sums.{prefix_len-le-length, prefix_len_is, prefix_len_passes, prefix_len_stops}
use Rattle.std.proofs.lemmas.List.FromFn.{length-map-range_with_len, get_or-map-range_with_len}
use Rattle.std.proofs.lemmas.Bool.{and_parts, cases_eq, cases_lt, ltb-true, lt-ltb, le-ltb, ltb-false, eq-eqb, ne_eqb}
use Rattle.serialize.specs.declared.object_file.Trailer.{Trailer}
use Rattle.serialize.specs.declared.object_file.LinkRecord.{LinkRecord}
use Rattle.serialize.specs.declared.object_file.SoundFile.{SoundFile}
use Rattle.serialize.specs.Objects.{part}
use Rattle.serialize.specs.ObjectFile.{record_at, records_of, sound_alone, keeps_rules}
use Rattle.graph.specs.Filling.{Loadable, first_of}
use Rattle.serialize.proofs.Order.{in_order, follows_parent, all_keep}

-- a filter that keeps one stretch
pub kept_run : {X : Type 0} (p : X → Bool) (d : X) (xs : List X) (f c : ℕ) → ((k : ℕ) → k < f → k < length xs → p (get_or xs k d) ≡ false)
    → ((k : ℕ) → f ≤ k → k < f + c → k < length xs → p (get_or xs k d) ≡ true) → ((k : ℕ) → f + c ≤ k → k < length xs → p (get_or xs k d) ≡ false) → filter p xs ≡ part f c xs
kept_run p d [] zero zero before here after = refl
kept_run p d [] zero (suc c) before here after = refl
kept_run p d [] (suc f) zero before here after = refl
kept_run p d [] (suc f) (suc c) before here after = refl
kept_run p d (x ∷ xs) zero zero before here after =
    let e = after zero (omega arith) (omega arith) in
    rw e (kept_run p d xs zero zero (λ k h l. absurd (omega arith)) (λ k h l m. absurd (omega arith)) (λ k h l. after (suc k) (omega arith) (omega arith)))
kept_run p d (x ∷ xs) zero (suc c) before here after =
    let e = here zero (omega arith) (omega arith) (omega arith) in
    rw e (ap (λ zs. x ∷ zs) (kept_run p d xs zero c (λ k h l. absurd (omega arith)) (λ k h l m. here (suc k) (omega arith) (omega arith) (omega arith)) (λ k h l. after (suc k) (omega arith) (omega arith))))
kept_run p d (x ∷ xs) (suc f) c before here after =
    let e = before zero (omega arith) (omega arith) in
    rw e (kept_run p d xs f c (λ k h l. before (suc k) (omega arith) (omega arith)) (λ k h l m. here (suc k) (omega arith) (omega arith) (omega arith)) (λ k h l. after (suc k) (omega arith) (omega arith)))

pub loadable : (s : SoundFile) → Loadable s.file.bytes.now s.file.trailer
loadable s = (s.file.read, s.sound)

abbrev no_record : LinkRecord
no_record = record { parent = 0; position = 0; child = 0; width = 0 }

module _ (file : List ℕ) (t : Trailer) where
  pub records_long : length (records_of file t) ≡ t.links
  records_long = length-map-range_with_len (record_at file t) 0 t.links

  pub record_is : (k : ℕ) (d : LinkRecord) → k < t.links → get_or (records_of file t) k d ≡ record_at file t k
  record_is k d h = get_or-map-range_with_len (record_at file t) 0 t.links k k d h (omega arith)

  parent_is : (k : ℕ) → k < t.links → (get_or (records_of file t) k no_record).parent ≡ (record_at file t k).parent
  parent_is k h = ap (λ (r : LinkRecord). r.parent) (record_is k no_record h)

  -- the records before the first of v have lower parents, and it is the one behind them
  pub first_le : (v : ℕ) → first_of file t v ≤ t.links
  first_le v = omega (arith, prefix_len-le-length (λ (r : LinkRecord). ltb r.parent v) (records_of file t), records_long)

  pub first_before : (v k : ℕ) → k < first_of file t v → (record_at file t k).parent < v
  first_before v k h =
      omega (arith, first_le v, parent_is k (omega (arith, first_le v)), ltb-true _ _ (prefix_len_passes (λ (r : LinkRecord). ltb r.parent v) (records_of file t) k no_record h))

  pub first_is : (v i : ℕ) → i ≤ t.links → ((k : ℕ) → k < i → (record_at file t k).parent < v) → (i < t.links → v ≤ (record_at file t i).parent) → first_of file t v ≡ i
  first_is v i h before here =
      prefix_len_is (λ (r : LinkRecord). ltb r.parent v) (records_of file t) i no_record (omega (arith, records_long))
      (λ k l. lt-ltb _ _ (omega (arith, parent_is k (omega arith), before k l)))
      (λ l. le-ltb _ _ (omega (arith, records_long, parent_is i (omega (arith, records_long)), here (omega (arith, records_long)))))

  module _ (ok : Loadable file t) where
    pub kept : (k : ℕ) → k < t.links → keeps_rules file t k ≡ true
    kept = all_keep file t ok.1

    parents_up : (j k : ℕ) → j ≤ k → k < t.links → (record_at file t j).parent ≤ (record_at file t k).parent
    parents_up j k le h =
        elim (cases_eq j k) [
          | inl same ↦ omega (arith, ap (λ (i : ℕ). (record_at file t i).parent) same)
          | inr other ↦ follows_parent (record_at file t j) (record_at file t k) (in_order file t k j (kept k h) (omega arith))
        ]

    pub first_after : (v k : ℕ) → first_of file t v ≤ k → k < t.links → v ≤ (record_at file t k).parent
    first_after v k le h =
        let i = first_of file t v in
        omega (arith, parents_up i k le h, parent_is i (omega arith), ltb-false _ _ (prefix_len_stops (λ (r : LinkRecord). ltb r.parent v) (records_of file t) no_record (omega (arith, records_long))))

    pub first_up : (v : ℕ) → first_of file t v ≤ first_of file t (v + 1)
    first_up v =
        elim (cases_lt (first_of file t (v + 1)) (first_of file t v)) [
          | inl less ↦ absurd (omega (arith, first_before v (first_of file t (v + 1)) less, first_after (v + 1) (first_of file t (v + 1)) (omega arith) (omega (arith, first_le v))))
          | inr more ↦ more
        ]

    -- in the stretch of v the parent is v
    pub stretch : (v k : ℕ) → first_of file t v ≤ k → k < first_of file t (v + 1) → (record_at file t k).parent ≡ v
    stretch v k lo hi = omega (arith, first_after v k lo (omega (arith, first_le (v + 1))), first_before (v + 1) k hi)

    pub first_none : first_of file t 0 ≡ 0
    first_none = first_is 0 0 (omega arith) (λ k h. absurd (omega arith)) (λ _. omega arith)

    pub first_all : first_of file t t.vertices ≡ t.links
    first_all = first_is t.vertices t.links (omega arith) (λ k h. ltb-true _ _ (and_parts (ltb (record_at file t k).parent t.vertices) _ (and_parts (sound_alone file t (record_at file t k)) _ (kept k h)).0).0) (λ h. absurd (omega arith))

    -- the links of v are the stretch of v
    pub kept_stretch : (v : ℕ) → filter (λ (r : LinkRecord). eqb r.parent v) (records_of file t) ≡ part (first_of file t v) (first_of file t (v + 1) - first_of file t v) (records_of file t)
    kept_stretch v =
        let n = records_long in
        let up = first_up v in
        kept_run (λ (r : LinkRecord). eqb r.parent v) no_record (records_of file t) (first_of file t v) (first_of file t (v + 1) - first_of file t v)
        (λ k h l. ne_eqb _ _ (λ e. omega (arith, parent_is k (omega arith), first_before v k h)))
        (λ k lo hi l. eq-eqb _ _ (parent_is k (omega arith) ∙ stretch v k lo (omega arith)))
        (λ k h l. ne_eqb _ _ (λ e. omega (arith, parent_is k (omega arith), first_after (v + 1) k (omega arith) (omega arith))))
