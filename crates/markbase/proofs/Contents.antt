-- What parts 2 to 5 come to.
use Rattle.std.proofs.Common.{◌≡◌, ℕ, suc, List, [], ◌∷◌, length, Ok, Err, Option, Result, sym, refl, ap, ◌∙◌, subst, arith}
use Rattle.refusal.specs.declared.Part.{Part}
use Rattle.serialize.specs.Objects.{Node, node_at, Ascends}
use Rattle.layout.specs.declared.coverage.Coverage.{Coverage}
use Rattle.layout.specs.Lookup.{covered}
use Rattle.fields.specs.declared.fault.Fault.{Fault}
use Rattle.fields.specs.Arrays.{mark_array_reader, base_array_reader}
use Rattle.markbase.specs.declared.table.MarkBasePosFormat1.{MarkBasePosFormat1}
use Rattle.markbase.specs.declared.fault.PartFault.{PartFault}
use Rattle.markbase.specs.declared.mark_array.MarkArray.{MarkArray}
use Rattle.markbase.specs.declared.base_array.BaseArray.{BaseArray}
use Rattle.markbase.specs.Nodes.{read}
use Rattle.markbase.specs.Tables.{coverage}
use Rattle.markbase.specs.Faults.{placed}
use Rattle.markbase.specs.Views.{marks_of, rows_of, ReadsMarks, ReadsBases, ReadsCoverage}
use Rattle.markbase.specs.Values.{Contents}
use Rattle.markbase.specs.Parts.{paired, mark_of, base_of, contents_of}
use Rattle.markbase.specs.PartReads.{Counts}
use Rattle.markbase.proofs.Records.{marks_count, rows_count}

-- an answer that got past its part
pub placed_ok : {A : Type 0} (part : Part) (r : Result A Fault) (a : A) → Ok a ≡ placed part r → r ≡ Ok a
placed_ok part (Ok b) a e = cc
placed_ok {A} part (Err f) a e = let z : ◌≡◌ {A = ℕ} 0 1 = cc in absurd (omega arith)

pub covers : (part : Part) (x : Result (List ℕ) ℕ) (r : Result Coverage Fault) (c : Coverage) → ReadsCoverage x r → Ok c ≡ placed part r → x ≡ Ok (covered c.bytes.now)
covers part x r c h e = (subst (ReadsCoverage x) (placed_ok part r c e) h).0

pub marks_made : (part : Part) (x : Result (List (ℕ × Option ℕ)) ℕ) (r : Result MarkArray Fault) (m : MarkArray) → ReadsMarks x r → Ok m ≡ placed part r → x ≡ Ok (marks_of m)
marks_made part x r m h e = subst (ReadsMarks x) (placed_ok part r m e) h

pub rows_made : (part : Part) (x : Result (List (List (Option ℕ))) ℕ) (r : Result BaseArray Fault) (m : BaseArray) → ReadsBases x r → Ok m ≡ placed part r → x ≡ Ok (rows_of m)
rows_made part x r m h e = subst (ReadsBases x) (placed_ok part r m e) h

length-paired : {A X : Type 0} (f : ℕ → A → X) (gs : List ℕ) (as' : List A) → length as' ≡ length gs → length (paired f gs as') ≡ length gs
length-paired f [] as' e = refl
length-paired f (g ∷ gs) [] e = absurd (omega arith)
length-paired f (g ∷ gs) (a ∷ as') e = ap suc (length-paired f gs as' (omega arith))

-- the four parts of a table, each of them read
pub record Whole (nodes : List Node) (t : MarkBasePosFormat1) (ms bs : List ℕ) (records : List (ℕ × Option ℕ)) (rows : List (List (Option ℕ))) : Type 0 where
  pub marks : coverage (node_at nodes t.mark_coverage) ≡ Ok ms
  pub bases : coverage (node_at nodes t.base_coverage) ≡ Ok bs
  pub mark_records : read (mark_array_reader (length ms) t.class_count) (node_at nodes t.mark_array) ≡ Ok records
  pub base_rows : read (base_array_reader (length bs) t.class_count) (node_at nodes t.base_array) ≡ Ok rows

module _ {nodes : List Node} {t : MarkBasePosFormat1} {ms bs : List ℕ} {records : List (ℕ × Option ℕ)} {rows : List (List (Option ℕ))} (w : Whole nodes t ms bs records rows) where
  pub contents_are : contents_of nodes t ≡ Ok record { marks = paired mark_of ms records; bases = paired base_of bs rows }
  contents_are = rw (w.marks, w.bases, w.mark_records, w.base_rows)

  pub contents_counted : Ascends (node_at nodes t.mark_array).links → Ascends (node_at nodes t.base_array).links → (m b : ℕ) → m ≡ length ms → b ≡ length bs → Counts (contents_of nodes t) (Ok (m, b))
  contents_counted up up' m b em eb =
      let x = node_at nodes t.mark_array in
      let y = node_at nodes t.base_array in
      let one = length-paired mark_of ms records (marks_count x.bytes x.links up (length ms) t.class_count records w.mark_records) in
      let two = length-paired base_of bs rows (rows_count y.bytes y.links up' (length bs) t.class_count rows w.base_rows) in
      let e : m ≡ length (paired mark_of ms records) = em ∙ sym one in
      let f : b ≡ length (paired base_of bs rows) = eb ∙ sym two in
      subst (λ (r : Result Contents PartFault). Counts r (Ok (m, b))) (sym contents_are) (λ i. Ok (e i, f i))
