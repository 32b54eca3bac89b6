-- What is written of a subtable reads as the subtable, leads where it says, and is sound.
use Rattle.std.proofs.Common.{◌≡◌, ℕ, ◌+◌, ◌<◌, true, ltb, List, [], ◌∷◌, ◌++◌, map, length, Some, None, Ok, Option, sym, refl, ap, ◌∙◌, subst, inl, inr, arith}
use Rattle.std.specs.List.{flat_map, AllByRecursion}
use Rattle.std.proofs.lemmas.List.{length-map, map-append}
use Rattle.std.proofs.ByRecursion.{All-append, All-map}
use Rattle.std.proofs.lemmas.Bool.{and_parts, ltb-true}
use Rattle.serialize.specs.declared.link.Link.{Link}
use Rattle.serialize.specs.declared.link.LinkWidth.TheVariants.{Two}
use Rattle.serialize.specs.Objects.{Node, node_at}
use Rattle.walk.specs.Computed.{children}
use Rattle.coverage_writers.specs.Writing.{ascends, listed, Means, Lawful}
use Rattle.fields.specs.Arrays.{mark_array_reader, base_array_reader, present}
use Rattle.markbase.specs.declared.lookup_type.LookupType.{LookupType}
use Rattle.markbase.specs.declared.lookup_type.LookupType.TheVariants.{MarkToBase, Extension}
use Rattle.markbase.specs.Nodes.{read}
use Rattle.markbase.specs.Tables.{subtable, extension, coverage}
use Rattle.markbase.specs.Values.{Mark, Base, Contents, Subtable}
use Rattle.lookups.specs.Tables.{Fields, lookup}
use Rattle.written.specs.Writing.{each, as_word, as_offset, as_nullable, as_mark, as_extension, as_lookup, vertex_of}
use Rattle.written.specs.Laws.{SoundVertex}
use Rattle.written.proofs.Comes.{marks_come_back, bases_come_back, subtables_come_back, extensions_come_back, lookups_come_back}
use Rattle.written.proofs.Leads.{present_append}
use Rattle.written.proofs.Neat.{sound_neat, marks_neat, bases_neat, subtable_neat, extension_neat, lookup_neat}
use Rattle.pieces.specs.Pieces.{row_part, piece, mark_glyphs, base_glyphs, Formed}
use Rattle.pieces.specs.Keeping.{mark_anchors, base_anchors, anchors}
use Rattle.pieces.proofs.Glyphs.{keys_same}
use Rattle.splitting.specs.Vertices.{Meaning, records, rows, subtable_vertex, bytes_only, coverage_vertex, marks_vertex, bases_vertex, vertices, extension_vertex, own_vertices}
use Rattle.splitting.specs.Standing.{Worded}
use Rattle.splitting.proofs.Members.{In}
use Rattle.splitting.proofs.Parts.{Behind, Parts}
use Rattle.splitting.proofs.Holding.{four_of, four_own, extension_own, Holds, Extended}
use Rattle.splitting.proofs.Placing.{Shaped}

-- a list of glyphs that a writer takes is short
few_listed : (gs : List ℕ) → listed gs ≡ true → length gs < 65536
few_listed gs h = ltb-true (length gs) 65536 (and_parts (ascends 0 gs) (ltb (length gs) 65536) h).1

-- the bytes for such a list read as it
coverage_back : (gs : List ℕ) (o : Option (List ℕ)) → Means gs o → coverage (bytes_only o) ≡ Ok gs
coverage_back gs (Some bs) m = m.1
coverage_back gs None m = absurd m

-- what is written of a well-formed subtable reads as it
module _ (q : Subtable) (ok : Formed q.table.class_count q.contents) where
  -- its fields
  pub fields_read : read subtable (subtable_vertex q) ≡ Ok q.table
  fields_read = (subtables_come_back q.table ok.some ok.few).reads

  -- its mark coverage
  pub marks_read : (w : Meaning) → Lawful w → coverage (coverage_vertex w q) ≡ Ok (mark_glyphs q.contents)
  marks_read w lawful = coverage_back (mark_glyphs q.contents) (w (mark_glyphs q.contents)) (lawful.taken (mark_glyphs q.contents) ok.marks)

  -- its mark array
  pub records_read : read (mark_array_reader (length q.contents.marks) q.table.class_count) (marks_vertex q) ≡ Ok (records q.contents)
  records_read =
      let k = q.table.class_count in
      let ms = q.contents.marks in
      let long : length (records q.contents) ≡ length ms = length-map ms (λ (m : Mark). (m.class, m.anchor)) in
      let few : length (records q.contents) < 65536 = omega (arith, length-map ms (λ (m : Mark). m.glyph), few_listed (mark_glyphs q.contents) ok.marks) in
      let back = marks_come_back k (records q.contents) (omega (arith, ok.few)) few (All-map (λ (m : ℕ × Option ℕ). m.0 < k) (λ (m : Mark). (m.class, m.anchor)) ms ok.classed) in
      ap (λ n. read (mark_array_reader n k) (marks_vertex q)) (sym long) ∙ back.reads

  -- its base array
  pub rows_read : read (base_array_reader (length q.contents.bases) q.table.class_count) (bases_vertex q) ≡ Ok (rows q.contents)
  rows_read =
      let k = q.table.class_count in
      let bs = q.contents.bases in
      let long : length (rows q.contents) ≡ length bs = length-map bs (λ (b : Base). b.row) in
      let few : length (rows q.contents) < 65536 = omega (arith, length-map bs (λ (b : Base). b.glyph), few_listed (base_glyphs q.contents) ok.bases) in
      let back = bases_come_back k (rows q.contents) few (All-map (λ (row : List (Option ℕ)). length row ≡ k) (λ (b : Base). b.row) bs ok.rows) in
      ap (λ n. read (base_array_reader n k) (bases_vertex q)) (sym long) ∙ back.reads

-- a piece that stands in its vertices is read part by part
pub holds_parts : {w : Meaning} → Lawful w → (nodes : List Node) (kind : LookupType) (q : Subtable) → Formed q.table.class_count q.contents → Holds w nodes q → Behind nodes kind q
    → coverage (node_at nodes q.table.base_coverage) ≡ Ok (base_glyphs q.contents) → Parts nodes kind q
holds_parts {w} lawful nodes kind q ok h b bases =
    let k = q.table.class_count in
    record {
      behind = b;
      fields = ap (read subtable) h.fields ∙ fields_read q ok;
      marks = ap coverage h.marks ∙ marks_read q ok w lawful;
      bases = bases;
      mark_records = ap (read (mark_array_reader (length q.contents.marks) k)) h.mark_records ∙ records_read q ok;
      base_rows = ap (read (base_array_reader (length q.contents.bases) k)) h.base_rows ∙ rows_read q ok;
    }

-- an extension that holds what it says leads to the subtable
pub behind_extended : (nodes : List Node) (q : Subtable) (e : ℕ) → q.extension ≡ Some e → Extended nodes q → Behind nodes Extension q
behind_extended nodes q e h x = (e, h, ap (read extension) (x e h) ∙ (extensions_come_back q.vertex).reads)

-- whatever the type
pub behind_shaped : (nodes : List Node) (kind : LookupType) (q : Subtable) → Shaped kind q → Extended nodes q → Behind nodes kind q
behind_shaped nodes MarkToBase q h x = h
behind_shaped nodes Extension q h x = behind_extended nodes q h.0 h.1 x

-- a piece has all bases
pub base_glyphs_lem : (c : Contents) (a b : ℕ) → base_glyphs (piece c a b) ≡ base_glyphs c
base_glyphs_lem c a b = keys_same (λ (s : Base). s.glyph) (row_part a b) (λ s. refl) c.bases

-- a subtable reads where its own vertices and its base coverage are as they were
module _ (nodes nodes' : List Node) (u : Subtable) (same : (y : ℕ) → In y (own_vertices u) → node_at nodes' y ≡ node_at nodes y) where
  behind_kept : (kind : LookupType) → Behind nodes kind u → Behind nodes' kind u
  behind_kept MarkToBase b = b
  behind_kept Extension b = (b.0, b.1, ap (read extension) (same b.0 (extension_own u b.0 b.1)) ∙ b.2)

  -- part by part
  pub parts_kept : node_at nodes' u.table.base_coverage ≡ node_at nodes u.table.base_coverage → (kind : LookupType) → Parts nodes kind u → Parts nodes' kind u
  parts_kept cover kind p =
      let k = u.table.class_count in
      let four : (y : ℕ) → In y (four_of u) → node_at nodes' y ≡ node_at nodes y = λ y i. same y (four_own u y i) in
      record {
        behind = behind_kept kind p.behind;
        fields = ap (read subtable) (four u.vertex (inl refl)) ∙ p.fields;
        marks = ap coverage (four u.table.mark_coverage (inr (inl refl))) ∙ p.marks;
        bases = ap coverage cover ∙ p.bases;
        mark_records = ap (read (mark_array_reader (length u.contents.marks) k)) (four u.table.mark_array (inr (inr (inl refl)))) ∙ p.mark_records;
        base_rows = ap (read (base_array_reader (length u.contents.bases) k)) (four u.table.base_array (inr (inr (inr (inl refl))))) ∙ p.base_rows;
      }

-- where links lead
abbrev leads : List Link → List ℕ
leads ls = map (λ (l : Link). l.child) ls

nullable_leads : (o : Option ℕ) (p : ℕ) (ls : List Link) (os : List (Option ℕ)) → leads ls ≡ present os → leads ((as_nullable o).links p ++ ls) ≡ present (o ∷ os)
nullable_leads (Some c) p ls os h = ap (λ cs. c ∷ cs) h
nullable_leads None p ls os h = h

mark_leads : (ms : List Mark) (p : ℕ) → leads ((each as_mark (map (λ (m : Mark). (m.class, m.anchor)) ms)).links p) ≡ present (map (λ (m : Mark). m.anchor) ms)
mark_leads [] p = refl
mark_leads (m ∷ ms) p = nullable_leads m.anchor _ _ (map (λ (m : Mark). m.anchor) ms) (mark_leads ms _)

row_leads : (os : List (Option ℕ)) (p : ℕ) → leads ((each as_nullable os).links p) ≡ present os
row_leads [] p = refl
row_leads (o ∷ os) p = nullable_leads o p _ os (row_leads os _)

base_leads : (bs : List Base) (p : ℕ) → leads ((each (each as_nullable) (map (λ (b : Base). b.row) bs)).links p) ≡ present (flat_map (λ (b : Base). b.row) bs)
base_leads [] p = refl
base_leads (b ∷ bs) p =
    let row = each as_nullable b.row in
    let more = each (each as_nullable) (map (λ (b : Base). b.row) bs) in
    let p' = p + length row.bytes in
    map-append (λ (l : Link). l.child) (row.links p) (more.links p')
    ∙ ((λ i. row_leads b.row p i ++ base_leads bs p' i) ∙ sym (present_append b.row (flat_map (λ (b : Base). b.row) bs)))

offset_leads : (cs : List ℕ) (p : ℕ) (ls : List Link) → leads ls ≡ [] → leads ((each (as_offset Two) cs).links p ++ ls) ≡ cs
offset_leads [] p ls h = h
offset_leads (c ∷ cs) p ls h = ap (λ ds. c ∷ ds) (offset_leads cs _ ls h)

word_leads : (ws : List ℕ) (p : ℕ) → leads ((each as_word ws).links p) ≡ []
word_leads [] p = refl
word_leads (w ∷ ws) p = word_leads ws _

-- where what is written of a subtable leads
module _ (q : Subtable) where
  -- the subtable to its parts
  pub fields_children : children (subtable_vertex q) ≡ q.table.mark_coverage ∷ q.table.base_coverage ∷ q.table.mark_array ∷ q.table.base_array ∷ []
  fields_children = refl

  -- the mark coverage to nothing
  pub coverage_children : (w : Meaning) → children (coverage_vertex w q) ≡ []
  coverage_children w = go (w (mark_glyphs q.contents))
    where
      go : (o : Option (List ℕ)) → children (bytes_only o) ≡ []
      go (Some bs) = refl
      go None = refl

  -- the mark array to the anchors of the marks
  pub marks_children : children (marks_vertex q) ≡ present (mark_anchors q.contents)
  marks_children = mark_leads q.contents.marks _

  -- the base array to those of the bases
  pub bases_children : children (bases_vertex q) ≡ present (base_anchors q.contents)
  bases_children = base_leads q.contents.bases _

-- a lookup leads to its subtables or extensions
pub lookup_children : (f : Fields) → children (vertex_of (as_lookup f)) ≡ f.offsets
lookup_children f = offset_leads f.offsets _ ((each as_word f.filter).links _) (word_leads f.filter _)

-- a lookup that is written reads as its fields
pub lookup_read : (f : Fields) → Worded f → length f.offsets < 65536 → read lookup (vertex_of (as_lookup f)) ≡ Ok f
lookup_read f h few = (lookups_come_back f h.flag few h.filter h.filters).reads

-- what holds of two lists behind each other holds of both
all_parts : {X : Type 0} (P : X → Type 0) (xs ys : List X) → AllByRecursion P (xs ++ ys) → AllByRecursion P xs × AllByRecursion P ys
all_parts P [] ys h = (tt, h)
all_parts P (x ∷ xs) ys h = let r = all_parts P xs ys h.1 in ((h.0, r.0), r.1)

-- what holds of each list holds of them joined
pub all_joined : {X Y : Type 0} (P : Y → Type 0) (f : X → List Y) (xs : List X) → AllByRecursion (λ (x : X). AllByRecursion P (f x)) xs → AllByRecursion P (flat_map f xs)
all_joined P f [] h = tt
all_joined P f (x ∷ xs) h = All-append P (f x) (flat_map f xs) h.0 (all_joined P f xs h.1)

-- what is written is sound where it leads to vertices
module _ (count : ℕ) where
  -- bytes without a link are
  bytes_sound : (o : Option (List ℕ)) → SoundVertex count (bytes_only o)
  bytes_sound (Some bs) = (λ i j h k. absurd (omega arith), λ i h. absurd (omega arith))
  bytes_sound None = (λ i j h k. absurd (omega arith), λ i h. absurd (omega arith))

  -- the four vertices of a subtable
  pub vertices_sound : (w : Meaning) (q : Subtable)
      → AllByRecursion (λ y. y < count) (q.table.mark_coverage ∷ q.table.base_coverage ∷ q.table.mark_array ∷ q.table.base_array ∷ [])
      → AllByRecursion (λ y. y < count) (present (anchors q.contents)) → AllByRecursion (SoundVertex count) (vertices w q)
  vertices_sound w q h k =
      let c = q.contents in
      let both = all_parts (λ y. y < count) (present (mark_anchors c)) (present (base_anchors c)) (subst (AllByRecursion (λ y. y < count)) (present_append (mark_anchors c) (base_anchors c)) k) in (
        sound_neat (subtable_neat q.table) count h,
        (
          bytes_sound (w (mark_glyphs c)),
          (
            sound_neat (marks_neat (records c)) count (subst (AllByRecursion (λ y. y < count)) (sym (marks_children q)) both.0),
            (sound_neat (bases_neat (rows c)) count (subst (AllByRecursion (λ y. y < count)) (sym (bases_children q)) both.1), tt),
          ),
        ),
      )

  -- an extension
  pub extension_sound : (u : ℕ) → u < count → SoundVertex count (vertex_of (as_extension u))
  extension_sound u h = sound_neat (extension_neat u) count (h, tt)

  -- the extension of a subtable, if it has one
  pub extensions_sound : (q : Subtable) → q.vertex < count → AllByRecursion (SoundVertex count) (extension_vertex q)
  extensions_sound q h = go q.extension
    where
      go : (o : Option ℕ) → AllByRecursion (SoundVertex count) (elim o [ None ↦ [] | Some e ↦ vertex_of (as_extension q.vertex) ∷ [] ])
      go None = tt
      go (Some e) = (extension_sound q.vertex h, tt)

  -- a lookup
  pub lookup_sound : (f : Fields) → AllByRecursion (λ y. y < count) f.offsets → SoundVertex count (vertex_of (as_lookup f))
  lookup_sound f h = sound_neat (lookup_neat f) count (subst (AllByRecursion (λ y. y < count)) (sym (lookup_children f)) h)
