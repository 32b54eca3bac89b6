-- Marks and bases by their glyphs: the index in a coverage is the index in its array.
use Rattle.std.proofs.Common.{◌≡◌, ℕ, suc, ◌+◌, ◌-◌, ◌<◌, ◌≤◌, Bool, true, false, cond, eqb, List, [], ◌∷◌, length, get_or, is_ok, Some, None, Ok, Err, Option, Result, sym, refl, ap, ◌∙◌, ⊎_elim, arith}
use Rattle.std.proofs.lemmas.Bool.{eqb-true, cases_Bool, true≢false}
use Rattle.serialize.specs.declared.link.Link.{Link}
use Rattle.serialize.specs.Objects.{Node, node_at}
use Rattle.layout.specs.Format.{read_coverage}
use Rattle.layout.specs.Lookup as layout
use Rattle.layout.specs.Lookup.{covered, index_in}
use Rattle.fields.specs.Arrays.{mark_array_reader, base_array_reader}
use Rattle.refusal.specs.declared.Part.{Part}
use Rattle.markbase.specs.declared.table.MarkBasePosFormat1.{MarkBasePosFormat1}
use Rattle.markbase.specs.declared.data.DataBytes.{DataBytes}
use Rattle.markbase.specs.declared.fault.PartFault.{PartFault}
use Rattle.markbase.specs.declared.mark_array.MarkArray.{MarkArray}
use Rattle.markbase.specs.declared.base_array.BaseArray.{BaseArray}
use Rattle.markbase.specs.Nodes.{node_of, read}
use Rattle.markbase.specs.Views.{list_of, marks_of, rows_of}
use Rattle.markbase.specs.Tables.{coverage, words_only}
use Rattle.markbase.specs.Faults.{in_part, ◌⟩◌}
use Rattle.markbase.specs.Values.{Mark, Base, Contents}
use Rattle.markbase.specs.Parts.{paired, mark_of, base_of, contents_of}
use Rattle.markbase.specs.Hits.{find, mark_in, base_in, given, contents_at, record_of, anchor_of}
use Rattle.markbase.proofs.Records.{marks_count, rows_count, marks_classed, marks_read, rows_read}
use Rattle.markbase.proofs.Contents.{Whole, contents_are}

module _ {A X : Type 0} (f : ℕ → A → X) (key : X → ℕ) (keys : (g : ℕ) (a : A) → key (f g a) ≡ g) where
  -- the first of the list has the glyph, or another one has
  here : (x g : ℕ) (a : A) (rest : Option X) → eqb x g ≡ true → cond (eqb (key (f x a)) g) (Some (f x a)) rest ≡ Some (f g a)
  here x g a rest t = ap (λ k. cond (eqb k g) (Some (f x a)) rest) (keys x a) ∙ ap (λ b. cond b (Some (f x a)) rest) t ∙ ap (λ k. Some (f k a)) (eqb-true x g t)

  there : (x g : ℕ) (a : A) (rest : Option X) → eqb x g ≡ false → cond (eqb (key (f x a)) g) (Some (f x a)) rest ≡ rest
  there x g a rest t = ap (λ k. cond (eqb k g) (Some (f x a)) rest) (keys x a) ∙ ap (λ b. cond b (Some (f x a)) rest) t

  pub found : (gs : List ℕ) (as' : List A) (g n k : ℕ) (d : A) → length as' ≡ length gs → index_in g n gs ≡ Some k → (n ≤ k) × (k < n + length gs) × (find key (paired f gs as') g ≡ Some (f g (get_or as' (k - n) d)))
  found [] as' g n k d h e = let z : ◌≡◌ {A = ℕ} 0 1 = cc in absurd (omega arith)
  found (x ∷ gs) [] g n k d h e = absurd (omega arith)
  found (x ∷ gs) (a ∷ as') g n k d h e =
      ⊎_elim
      (λ (t : eqb x g ≡ true).
      let s = sym (ap (λ b. cond b (Some n) (index_in g (n + 1) gs)) t) ∙ e in
      let q : n ≡ k = cc in
      let zero' : k - n ≡ 0 = omega arith in
      (omega arith, omega arith, here x g a (find key (paired f gs as') g) t ∙ ap (λ i. Some (f g (get_or (a ∷ as') i d))) (sym zero')))
      (λ (t : eqb x g ≡ false).
      let s = sym (ap (λ b. cond b (Some n) (index_in g (n + 1) gs)) t) ∙ e in
      let r = found gs as' g (n + 1) k d (omega arith) s in
      let more : k - n ≡ suc (k - (n + 1)) = omega (arith, r.0) in
      (omega (arith, r.0), omega (arith, r.1), there x g a (find key (paired f gs as') g) t ∙ r.2 ∙ ap (λ i. Some (f g (get_or (a ∷ as') i d))) (sym more)))
      (cases_Bool (eqb x g))

  pub missed : (gs : List ℕ) (as' : List A) (g n : ℕ) → index_in g n gs ≡ None → find key (paired f gs as') g ≡ None
  missed [] as' g n e = refl
  missed (x ∷ gs) [] g n e = refl
  missed (x ∷ gs) (a ∷ as') g n e =
      ⊎_elim
      (λ (t : eqb x g ≡ true). let s = sym (ap (λ b. cond b (Some n) (index_in g (n + 1) gs)) t) ∙ e in let z : ◌≡◌ {A = ℕ} 0 1 = cc in absurd (omega arith))
      (λ (t : eqb x g ≡ false). there x g a (find key (paired f gs as') g) t ∙ missed gs as' g (n + 1) (sym (ap (λ b. cond b (Some n) (index_in g (n + 1) gs)) t) ∙ e))
      (cases_Bool (eqb x g))

-- a part that was read, of several
part_ok : {A B : Type 0} (part : Part) (x : Result A ℕ) (next : A → Result B PartFault) → is_ok (in_part part x ⟩ next) ≡ true → (a : A) × (x ≡ Ok a) × (is_ok (next a) ≡ true)
part_ok part (Ok a) next e = (a, refl, e)
part_ok part (Err p) next e = let z : ◌≡◌ {A = Bool} false true = e in absurd (true≢false (sym z))

-- the parts of a table whose contents were read
pub record Parts (nodes : List Node) (t : MarkBasePosFormat1) : Type 0 where
  pub mark_glyphs : List ℕ
  pub base_glyphs : List ℕ
  pub records : List (ℕ × Option ℕ)
  pub rows : List (List (Option ℕ))
  pub whole : Whole nodes t mark_glyphs base_glyphs records rows

pub parts_of : (nodes : List Node) (t : MarkBasePosFormat1) → is_ok (contents_of nodes t) ≡ true → Parts nodes t
parts_of nodes t e =
    let a = part_ok _ _ _ e in
    let b = part_ok _ _ _ a.2 in
    let c = part_ok _ _ _ b.2 in
    let d = part_ok _ _ _ c.2 in
    record { mark_glyphs = a.0; base_glyphs = b.0; records = c.0; rows = d.0; whole = record { marks = a.1; bases = b.1; mark_records = c.1; base_rows = d.1 } }

-- a coverage that was read has no link
unlinked : (ls : List Link) (x : Result (List ℕ) ℕ) (gs : List ℕ) → words_only ls x ≡ Ok gs → x ≡ Ok gs
unlinked [] x gs e = e
unlinked (l ∷ ls) (Ok a) gs e = let z : ◌≡◌ {A = ℕ} 0 1 = cc in absurd (omega arith)
unlinked (l ∷ ls) (Err p) gs e = let z : ◌≡◌ {A = ℕ} 0 1 = cc in absurd (omega arith)

pub covered_are : (x : Node) (gs : List ℕ) → coverage x ≡ Ok gs → covered x.bytes ≡ gs
covered_are x gs e = ap layout.given (unlinked x.links (read_coverage x.bytes) gs e)

-- the same of bytes that are those of the vertex
pub glyphs_are : (x y : Node) (bs gs : List ℕ) → bs ≡ x.bytes → x ≡ y → coverage y ≡ Ok gs → covered bs ≡ gs
glyphs_are x y bs gs b e c = ap covered (b ∙ ap (λ (n : Node). n.bytes) e) ∙ covered_are y gs c

module _ (nodes : List Node) (t : MarkBasePosFormat1) (p : Parts nodes t) where
  contents_at_lem : contents_at nodes t ≡ record { marks = paired mark_of p.mark_glyphs p.records; bases = paired base_of p.base_glyphs p.rows }
  contents_at_lem = ap given (contents_are p.whole)

  pub mark_missed : (g : ℕ) → index_in g 0 p.mark_glyphs ≡ None → record_of (mark_in (contents_at nodes t) g) ≡ None
  mark_missed g e = ap (λ (c : Contents). record_of (mark_in c g)) contents_at_lem ∙ ap record_of (missed mark_of (λ (m : Mark). m.glyph) (λ g a. refl) p.mark_glyphs p.records g 0 e)

  pub base_missed : (g class : ℕ) → index_in g 0 p.base_glyphs ≡ None → anchor_of class (base_in (contents_at nodes t) g) ≡ None
  base_missed g class e = ap (λ (c : Contents). anchor_of class (base_in c g)) contents_at_lem ∙ ap (anchor_of class) (missed base_of (λ (b : Base). b.glyph) (λ g a. refl) p.base_glyphs p.rows g 0 e)

  -- the base array is read where a view of it is made
  pub bases_stand : (v : DataBytes) (n : ℕ) → node_of v ≡ node_at nodes t.base_array → n ≡ length p.base_glyphs → is_ok (read (base_array_reader n t.class_count) (node_of v)) ≡ true
  bases_stand v n here' many = ap is_ok ((λ i. read (base_array_reader (many i) t.class_count) (here' i)) ∙ p.whole.base_rows)

  -- a view of the mark array
  module _ (m : MarkArray) (here' : node_of m.vertex ≡ node_at nodes t.mark_array) (many : m.count ≡ length p.mark_glyphs) (classes : m.class_count ≡ t.class_count) where
    marks_are : marks_of m ≡ p.records
    unfolding marks_of
    marks_are = ap list_of ((λ i. read (mark_array_reader (many i) (classes i)) (here' i)) ∙ p.whole.mark_records)

    marks_many : length p.records ≡ length p.mark_glyphs
    marks_many = sym (ap length marks_are) ∙ marks_count m.vertex.bytes.now m.vertex.links.now m.ascending m.count m.class_count (marks_of m) (marks_read m) ∙ many

    module _ (g k : ℕ) (e : index_in g 0 p.mark_glyphs ≡ Some k) where
      mark_there : (0 ≤ k) × (k < 0 + length p.mark_glyphs) × (find (λ (x : Mark). x.glyph) (paired mark_of p.mark_glyphs p.records) g ≡ Some (mark_of g (get_or p.records (k - 0) (0, None))))
      mark_there = found mark_of (λ (x : Mark). x.glyph) (λ g a. refl) p.mark_glyphs p.records g 0 k (0, None) marks_many e

      pub mark_known : k < length (marks_of m)
      mark_known = omega (arith, mark_there.1, marks_many, ap length marks_are)

      pub mark_found : record_of (mark_in (contents_at nodes t) g) ≡ Some (get_or (marks_of m) k (0, None))
      mark_found =
          let zero' : k - 0 ≡ k = omega arith in
          ap (λ (c : Contents). record_of (mark_in c g)) contents_at_lem ∙ ap record_of mark_there.2 ∙ ap (λ i. Some (get_or p.records i (0, None))) zero' ∙ ap (λ ms. Some (get_or ms k (0, None))) (sym marks_are)

      pub mark_classed : (get_or (marks_of m) k (0, None)).0 < t.class_count
      mark_classed = omega (arith, classes, marks_classed m.vertex.bytes.now m.vertex.links.now m.ascending m.count m.class_count (marks_of m) (marks_read m) k mark_known)

  -- a view of the base array
  module _ (m : BaseArray) (here' : node_of m.vertex ≡ node_at nodes t.base_array) (many : m.count ≡ length p.base_glyphs) (classes : m.class_count ≡ t.class_count) where
    rows_are : rows_of m ≡ p.rows
    unfolding rows_of
    rows_are = ap list_of ((λ i. read (base_array_reader (many i) (classes i)) (here' i)) ∙ p.whole.base_rows)

    rows_many : length p.rows ≡ length p.base_glyphs
    rows_many = sym (ap length rows_are) ∙ rows_count m.vertex.bytes.now m.vertex.links.now m.ascending m.count m.class_count (rows_of m) (rows_read m) ∙ many

    module _ (g k : ℕ) (e : index_in g 0 p.base_glyphs ≡ Some k) where
      base_there : (0 ≤ k) × (k < 0 + length p.base_glyphs) × (find (λ (x : Base). x.glyph) (paired base_of p.base_glyphs p.rows) g ≡ Some (base_of g (get_or p.rows (k - 0) [])))
      base_there = found base_of (λ (x : Base). x.glyph) (λ g a. refl) p.base_glyphs p.rows g 0 k [] rows_many e

      pub base_known : k < length (rows_of m)
      base_known = omega (arith, base_there.1, rows_many, ap length rows_are)

      pub base_found : (class : ℕ) → anchor_of class (base_in (contents_at nodes t) g) ≡ Some (get_or (get_or (rows_of m) k []) class None)
      base_found class =
          let zero' : k - 0 ≡ k = omega arith in
          ap (λ (c : Contents). anchor_of class (base_in c g)) contents_at_lem ∙ ap (anchor_of class) base_there.2 ∙ ap (λ i. Some (get_or (get_or p.rows i []) class None)) zero' ∙ ap (λ rs. Some (get_or (get_or rs k []) class None)) (sym rows_are)
