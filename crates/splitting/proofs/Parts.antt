-- The parts of a subtable that reads, and where their links lead.
use Rattle.std.proofs.Common.{◌≡◌, ℕ, List, [], ◌∷◌, map, length, Some, None, Ok, Err, Option, Result, sym, refl, ap, ◌∙◌, subst, ⊎_elim, arith}
use Rattle.std.specs.List.{flat_map, AllByRecursion}
use Rattle.std.proofs.lemmas.List.{length-map, get_or_past}
use Rattle.std.proofs.ByRecursion.{All-weaker}
use Rattle.std.proofs.lemmas.Bool.{cases_lt}
use Rattle.refusal.specs.declared.Part.{Part}
use Rattle.refusal.specs.declared.Part.TheVariants as part
use Rattle.layout.specs.Format.{read_coverage}
use Rattle.serialize.specs.declared.link.Link.{Link}
use Rattle.serialize.specs.Objects.{Node, no_node, node_at, SoundObjects}
use Rattle.walk.specs.Computed.{children}
use Rattle.fields.specs.Arrays.{mark_array_reader, base_array_reader, present}
use Rattle.markbase.specs.declared.table.MarkBasePosFormat1.{MarkBasePosFormat1}
use Rattle.markbase.specs.declared.fault.PartFault.{PartFault}
use Rattle.markbase.specs.declared.lookup_type.LookupType.{LookupType}
use Rattle.markbase.specs.declared.lookup_type.LookupType.TheVariants.{MarkToBase, Extension}
use Rattle.markbase.specs.Nodes.{read}
use Rattle.markbase.specs.Tables.{subtable, extension, words_only, coverage}
use Rattle.markbase.specs.Faults.{in_part, ◌⟩◌}
use Rattle.markbase.specs.Values.{Mark, Base, Contents, Subtable}
use Rattle.markbase.specs.Parts.{paired, mark_of, base_of, contents_of, subtable_at, subtable_of}
use Rattle.markbase.proofs.Records.{marks_count, rows_count}
use Rattle.lookups.specs.Tables.{Fields}
use Rattle.written.specs.Laws.{SoundVertex, LinksLead}
use Rattle.pieces.specs.Pieces.{mark_glyphs, base_glyphs}
use Rattle.pieces.specs.Keeping.{mark_anchors, base_anchors}
use Rattle.splitting.specs.Vertices.{records, rows, top_of}
use Rattle.splitting.specs.Standing.{Stands}

-- what stands before the subtable: nothing in type 4, and in type 9 an extension that leads to it
abbrev pub Behind : List Node → LookupType → Subtable → Type 0
Behind nodes MarkToBase t = t.extension ≡ None
Behind nodes Extension t = (e : ℕ) × (t.extension ≡ Some e) × (read extension (node_at nodes e) ≡ Ok record { subtable = t.vertex })

-- each part reads as what the subtable says of it
pub record Parts (nodes : List Node) (kind : LookupType) (t : Subtable) : Type 0 where
  pub behind : Behind nodes kind t
  pub fields : read subtable (node_at nodes t.vertex) ≡ Ok t.table
  pub marks : coverage (node_at nodes t.table.mark_coverage) ≡ Ok (mark_glyphs t.contents)
  pub bases : coverage (node_at nodes t.table.base_coverage) ≡ Ok (base_glyphs t.contents)
  pub mark_records : read (mark_array_reader (length t.contents.marks) t.table.class_count) (node_at nodes t.table.mark_array) ≡ Ok (records t.contents)
  pub base_rows : read (base_array_reader (length t.contents.bases) t.table.class_count) (node_at nodes t.table.base_array) ≡ Ok (rows t.contents)

-- every vertex of sound objects is sound, and what stands past the last is too
pub sound_at : (nodes : List Node) → SoundObjects nodes → (v : ℕ) → SoundVertex (length nodes) (node_at nodes v)
sound_at nodes sound v =
    let past : SoundVertex (length nodes) no_node = (λ i j h k. absurd (omega arith), λ i h. absurd (omega arith)) in
    ⊎_elim (λ h. sound v h) (λ h. subst (SoundVertex (length nodes)) (sym (get_or_past nodes v no_node h)) past) (cases_lt v (length nodes))

ok_same : {A E : Type 0} {a b : A} → ◌≡◌ {A = Result A E} (Ok a) (Ok b) → a ≡ b
ok_same e = cc

ok_err : {A E : Type 0} {a : A} {f : E} → ◌≡◌ {A = Result A E} (Err f) (Ok a) → ⊥
ok_err e = let z : ◌≡◌ {A = ℕ} 0 1 = cc in omega arith

-- what was read of a part, and what its value made of the others
after_part : {A B : Type 0} (p : Part) (x : Result A ℕ) (next : A → Result B PartFault) (b : B) → (in_part p x ⟩ next) ≡ Ok b → (a : A) × (x ≡ Ok a) × (next a ≡ Ok b)
after_part p (Ok a) next b e = (a, refl, e)
after_part p (Err q) next b e = absurd (ok_err e)

after : {A B : Type 0} (x : Result A PartFault) (next : A → Result B PartFault) (b : B) → (x ⟩ next) ≡ Ok b → (a : A) × (x ≡ Ok a) × (next a ≡ Ok b)
after (Ok a) next b e = (a, refl, e)
after (Err q) next b e = absurd (ok_err e)

-- glyphs and as many records, paired and taken apart again
glyphs_back : {A X : Type 0} (f : ℕ → A → X) (key : X → ℕ) → ((g : ℕ) (a : A) → key (f g a) ≡ g) → (gs : List ℕ) (as' : List A) → length as' ≡ length gs → map key (paired f gs as') ≡ gs
glyphs_back f key h [] as' e = refl
glyphs_back f key h (g ∷ gs) [] e = absurd (omega arith)
glyphs_back f key h (g ∷ gs) (a ∷ as') e = let one = h g a in let more = glyphs_back f key h gs as' (omega arith) in rw (one, more)

records_back : {A X : Type 0} (f : ℕ → A → X) (value : X → A) → ((g : ℕ) (a : A) → value (f g a) ≡ a) → (gs : List ℕ) (as' : List A) → length as' ≡ length gs → map value (paired f gs as') ≡ as'
records_back f value h [] [] e = refl
records_back f value h [] (a ∷ as') e = absurd (omega arith)
records_back f value h (g ∷ gs) [] e = absurd (omega arith)
records_back f value h (g ∷ gs) (a ∷ as') e = let one = h g a in let more = records_back f value h gs as' (omega arith) in rw (one, more)

-- taken apart and paired again
paired_back : {A X : Type 0} (f : ℕ → A → X) (key : X → ℕ) (value : X → A) → ((x : X) → f (key x) (value x) ≡ x) → (xs : List X) → paired f (map key xs) (map value xs) ≡ xs
paired_back f key value h [] = refl
paired_back f key value h (x ∷ xs) = let one = h x in let more = paired_back f key value h xs in rw (one, more)

-- the parts but for the extension
record Inner (nodes : List Node) (table : MarkBasePosFormat1) (c : Contents) : Type 0 where
  marks : coverage (node_at nodes table.mark_coverage) ≡ Ok (mark_glyphs c)
  bases : coverage (node_at nodes table.base_coverage) ≡ Ok (base_glyphs c)
  mark_records : read (mark_array_reader (length c.marks) table.class_count) (node_at nodes table.mark_array) ≡ Ok (records c)
  base_rows : read (base_array_reader (length c.bases) table.class_count) (node_at nodes table.base_array) ≡ Ok (rows c)

module _ (nodes : List Node) (sound : SoundObjects nodes) where
  inner : (table : MarkBasePosFormat1) (c : Contents) → contents_of nodes table ≡ Ok c → Inner nodes table c
  inner table c e =
      let p = after_part part.MarkCoverage (coverage (node_at nodes table.mark_coverage)) _ c e in
      let q = after_part part.BaseCoverage (coverage (node_at nodes table.base_coverage)) _ c p.2 in
      let gs = p.0 in
      let hs = q.0 in
      let k = table.class_count in
      let x = node_at nodes table.mark_array in
      let y = node_at nodes table.base_array in
      let r = after_part part.MarkArray (read (mark_array_reader (length gs) k) x) _ c q.2 in
      let s = after_part part.BaseArray (read (base_array_reader (length hs) k) y) _ c r.2 in
      let many = marks_count x.bytes x.links (sound_at nodes sound table.mark_array).0 (length gs) k r.0 r.1 in
      let wide = rows_count y.bytes y.links (sound_at nodes sound table.base_array).0 (length hs) k s.0 s.1 in
      let d : Contents = record { marks = paired mark_of gs r.0; bases = paired base_of hs s.0 } in
      let same : d ≡ c = ok_same s.2 in
      let ms : mark_glyphs d ≡ gs = glyphs_back mark_of (λ (m : Mark). m.glyph) (λ g a. refl) gs r.0 many in
      let bs : base_glyphs d ≡ hs = glyphs_back base_of (λ (b : Base). b.glyph) (λ g a. refl) hs s.0 wide in
      let rs : records d ≡ r.0 = records_back mark_of (λ (m : Mark). (m.class, m.anchor)) (λ g a. refl) gs r.0 many in
      let ss : rows d ≡ s.0 = records_back base_of (λ (b : Base). b.row) (λ g a. refl) hs s.0 wide in
      let m : length d.marks ≡ length gs = sym (length-map d.marks (λ (m : Mark). m.glyph)) ∙ ap length ms in
      let n : length d.bases ≡ length hs = sym (length-map d.bases (λ (b : Base). b.glyph)) ∙ ap length bs in
      let made : Inner nodes table d = record {
        marks = p.1 ∙ ap (λ (l : List ℕ). Ok l) (sym ms);
        bases = q.1 ∙ ap (λ (l : List ℕ). Ok l) (sym bs);
        mark_records = ap (λ (l : ℕ). read (mark_array_reader l k) x) m ∙ (r.1 ∙ ap (λ (l : List (ℕ × Option ℕ)). Ok l) (sym rs));
        base_rows = ap (λ (l : ℕ). read (base_array_reader l k) y) n ∙ (s.1 ∙ ap (λ (l : List (List (Option ℕ))). Ok l) (sym ss));
      } in
      subst (Inner nodes table) same made

  -- the parts of a subtable at a vertex
  record Placed (e : Option ℕ) (v : ℕ) (t : Subtable) : Type 0 where
    extended : t.extension ≡ e
    stands : t.vertex ≡ v
    fields : read subtable (node_at nodes t.vertex) ≡ Ok t.table
    held : Inner nodes t.table t.contents

  placed : (e : Option ℕ) (v : ℕ) (t : Subtable) → subtable_at nodes e v ≡ Ok t → Placed e v t
  placed e v t h =
      let p = after_part part.Subtable (read subtable (node_at nodes v)) _ t h in
      let q = after (contents_of nodes p.0) _ t p.2 in
      let u : Subtable = record { extension = e; vertex = v; table = p.0; contents = q.0 } in
      let same : u ≡ t = ok_same q.2 in
      let made : Placed e v u = record { extended = refl; stands = refl; fields = p.1; held = inner p.0 q.0 q.1 } in
      subst (Placed e v) same made

  -- a subtable that reads is read part by part
  pub parts : (kind : LookupType) (t : Subtable) → subtable_of nodes kind (top_of t) ≡ Ok t → Parts nodes kind t
  parts MarkToBase t h =
      let p = placed None (top_of t) t h in
      record { behind = p.extended; fields = p.fields; marks = p.held.marks; bases = p.held.bases; mark_records = p.held.mark_records; base_rows = p.held.base_rows }
  parts Extension t h =
      let q = after_part part.Extension (read extension (node_at nodes (top_of t))) _ t h in
      let p = placed (Some (top_of t)) q.0.subtable t q.2 in
      record {
        behind = (top_of t, p.extended, q.1 ∙ ap (λ (v : ℕ). Ok record { subtable = v }) (sym p.stands));
        fields = p.fields;
        marks = p.held.marks;
        bases = p.held.bases;
        mark_records = p.held.mark_records;
        base_rows = p.held.base_rows;
      }

-- the top of a subtable without and with an extension
pub top_none : (t : Subtable) → t.extension ≡ None → top_of t ≡ t.vertex
top_none t e = rw e

pub top_some : (t : Subtable) (e : ℕ) → t.extension ≡ Some e → top_of t ≡ e
top_some t e h = rw h

module _ (nodes : List Node) where
  contents_read : {kind : LookupType} {t : Subtable} → Parts nodes kind t → contents_of nodes t.table ≡ Ok t.contents
  contents_read {kind} {t} p =
      let c = t.contents in
      let m : length (mark_glyphs c) ≡ length c.marks = length-map c.marks (λ (m : Mark). m.glyph) in
      let n : length (base_glyphs c) ≡ length c.bases = length-map c.bases (λ (b : Base). b.glyph) in
      let ms : paired mark_of (mark_glyphs c) (records c) ≡ c.marks = paired_back mark_of (λ (m : Mark). m.glyph) (λ (m : Mark). (m.class, m.anchor)) (λ x. refl) c.marks in
      let bs : paired base_of (base_glyphs c) (rows c) ≡ c.bases = paired_back base_of (λ (b : Base). b.glyph) (λ (b : Base). b.row) (λ x. refl) c.bases in
      rw (p.marks, p.bases, m, p.mark_records, n, p.base_rows, ms, bs)

  at_read : {kind : LookupType} {t : Subtable} → Parts nodes kind t → subtable_at nodes t.extension t.vertex ≡ Ok t
  at_read p = rw (p.fields, contents_read p)

  -- and what is read part by part reads
  pub parts_read : (kind : LookupType) (t : Subtable) → Parts nodes kind t → subtable_of nodes kind (top_of t) ≡ Ok t
  parts_read MarkToBase t p = rw (top_none t p.behind, ← p.behind) (at_read p)
  parts_read Extension t p =
      let e = p.behind in
      rw (top_some t e.0 e.1, e.2, ← e.1) (at_read p)

map_map : {A B C : Type 0} (f : B → C) (g : A → B) (xs : List A) → map f (map g xs) ≡ map (λ (x : A). f (g x)) xs
map_map f g [] = refl
map_map f g (x ∷ xs) = let more = map_map f g xs in rw more

joined_map : {A B C : Type 0} (f : B → List C) (g : A → B) (xs : List A) → flat_map f (map g xs) ≡ flat_map (λ (x : A). f (g x)) xs
joined_map f g [] = refl
joined_map f g (x ∷ xs) = let more = joined_map f g xs in rw more

-- a coverage has no link
bare : (x : Node) (gs : List ℕ) → coverage x ≡ Ok gs → children x ≡ []
bare x gs e = go x.links (read_coverage x.bytes) e
  where
    go : (ls : List Link) (r : Result (List ℕ) ℕ) → words_only ls r ≡ Ok gs → map (λ (l : Link). l.child) ls ≡ []
    go [] r h = refl
    go (l ∷ ls) (Ok a) h = absurd (ok_err h)
    go (l ∷ ls) (Err p) h = absurd (ok_err h)

-- where the links of the parts lead
pub record Links (nodes : List Node) (t : Subtable) : Type 0 where
  pub extended : (e : ℕ) → t.extension ≡ Some e → children (node_at nodes e) ≡ t.vertex ∷ []
  pub fields : children (node_at nodes t.vertex) ≡ t.table.mark_coverage ∷ t.table.base_coverage ∷ t.table.mark_array ∷ t.table.base_array ∷ []
  pub marks : children (node_at nodes t.table.mark_coverage) ≡ []
  pub bases : children (node_at nodes t.table.base_coverage) ≡ []
  pub mark_records : children (node_at nodes t.table.mark_array) ≡ present (mark_anchors t.contents)
  pub base_rows : children (node_at nodes t.table.base_array) ≡ present (base_anchors t.contents)

module _ (lead : LinksLead) (nodes : List Node) (sound : SoundObjects nodes) where
  extended : (kind : LookupType) (t : Subtable) → Behind nodes kind t → (e : ℕ) → t.extension ≡ Some e → children (node_at nodes e) ≡ t.vertex ∷ []
  extended MarkToBase t b e h = let z : ◌≡◌ {A = ℕ} 0 1 = cc in absurd (omega arith)
  extended Extension t b e h =
      let same : e ≡ b.0 = cc in
      rw same (lead.behind (length nodes) (node_at nodes b.0) (sound_at nodes sound b.0) (record { subtable = t.vertex }) b.2)

  pub links_lead : (kind : LookupType) (t : Subtable) → Parts nodes kind t → Links nodes t
  links_lead kind t p =
      let c = t.contents in
      let k = t.table.class_count in
      let at : (v : ℕ) → SoundVertex (length nodes) (node_at nodes v) = sound_at nodes sound in
      record {
        extended = extended kind t p.behind;
        fields = lead.table (length nodes) (node_at nodes t.vertex) (at t.vertex) t.table p.fields;
        marks = bare (node_at nodes t.table.mark_coverage) (mark_glyphs c) p.marks;
        bases = bare (node_at nodes t.table.base_coverage) (base_glyphs c) p.bases;
        mark_records =
            lead.marks (length c.marks) k (length nodes) (node_at nodes t.table.mark_array) (at t.table.mark_array) (records c) p.mark_records
            ∙ ap present (map_map (λ (m : ℕ × Option ℕ). m.1) (λ (m : Mark). (m.class, m.anchor)) c.marks);
        base_rows =
            lead.bases (length c.bases) k (length nodes) (node_at nodes t.table.base_array) (at t.table.base_array) (rows c) p.base_rows
            ∙ ap present (joined_map (λ (row : List (Option ℕ)). row) (λ (b : Base). b.row) c.bases);
      }

-- the links of a lookup lead to the tops of its subtables
pub lookup_leads : LinksLead → {nodes : List Node} {v : ℕ} {f : Fields} {ts : List Subtable} → Stands nodes v f ts → children (node_at nodes v) ≡ map top_of ts
lookup_leads lead {nodes} {v} {f} {ts} s = lead.lookups (length nodes) (node_at nodes v) (sound_at nodes s.sound v) f s.fields ∙ s.offsets

-- the parts of all subtables of a lookup, and their links
pub parts_of : {nodes : List Node} {v : ℕ} {f : Fields} {ts : List Subtable} → Stands nodes v f ts → AllByRecursion (Parts nodes f.kind) ts
parts_of {nodes} {v} {f} {ts} s = All-weaker _ (Parts nodes f.kind) (parts nodes s.sound f.kind) ts s.reads

pub links_of_lem : LinksLead → {nodes : List Node} {v : ℕ} {f : Fields} {ts : List Subtable} → Stands nodes v f ts → AllByRecursion (Links nodes) ts
links_of_lem lead {nodes} {v} {f} {ts} s = All-weaker (Parts nodes f.kind) (Links nodes) (links_lead lead nodes s.sound f.kind) ts (parts_of s)
