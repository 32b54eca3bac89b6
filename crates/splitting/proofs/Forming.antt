-- What is read from bytes is well formed.
use Rattle.std.proofs.Common.{◌≡◌, ℕ, zero, suc, ◌+◌, ◌<◌, Bool, true, false, cond, eqb, ltb, leb, List, [], ◌∷◌, map, length, get_or, drop, is_some, Some, None, Ok, Err, Option, Result, unwrap_or, sym, refl, ap, ◌∙◌, subst, ⊎_elim, arith}
use Rattle.std.proofs.lemmas.List.{get_or-drop}
use Rattle.std.proofs.lemmas.Bool.{eqb-true, leb-true, ltb-true, lt-ltb, and_from}
use Rattle.std.specs.List.{AllByRecursion}
use Rattle.serialize.specs.declared.link.Link.{Link}
use Rattle.serialize.specs.declared.link.LinkWidth.{LinkWidth}
use Rattle.serialize.specs.declared.link.LinkWidth.TheVariants.{Two}
use Rattle.serialize.specs.Objects.{Node, node_at, bytes_at}
use Rattle.serialize.specs.Width.{width_of}
use Rattle.fields.specs.Fields.{Rest, Reader, start, front, bare, past, word, offset, nullable, then, allowed, give, also, times, ◌⟫◌}
use Rattle.fields.specs.Arrays.{mark, mark_array_reader, base_array_reader}
use Rattle.fields.proofs.Seeks.{ok_pair, not_ok, either, ended_ok, then_ok, also_ok, word_ok, allowed_ok, offset_ok}
use Rattle.coverage_writers.specs.Writing.{ascends, listed}
use Rattle.coverage_writers.proofs.Ascends.{reads_ascending}
use Rattle.layout.specs.Format.{read_coverage}
use Rattle.refusal.specs.declared.Part.{Part}
use Rattle.markbase.specs.declared.fault.PartFault.{PartFault}
use Rattle.markbase.specs.declared.table.MarkBasePosFormat1.{MarkBasePosFormat1}
use Rattle.markbase.specs.declared.lookup_type.LookupType.{LookupType}
use Rattle.markbase.specs.declared.lookup_type.LookupType.TheVariants.{MarkToBase, Extension}
use Rattle.markbase.specs.LookupTypes.{type_from}
use Rattle.markbase.specs.Nodes.{read}
use Rattle.markbase.specs.Tables.{table, subtable, extension, words_only, coverage}
use Rattle.markbase.specs.Faults.{in_part, ◌⟩◌}
use Rattle.markbase.specs.Values.{Mark, Base, Contents, Subtable}
use Rattle.markbase.specs.Parts.{paired, mark_of, base_of, contents_of, subtable_at, subtable_of}
use Rattle.lookups.specs.Tables.{Fields, filters, lookup}
use Rattle.pieces.specs.Pieces.{Formed}
use Rattle.splitting.specs.Standing.{Worded}

-- bytes are below 256
abbrev pub Low : List ℕ → Type 0
Low bs = (i : ℕ) → get_or bs i 0 < 256

-- the bytes of every vertex are
abbrev pub Bytes : List Node → Type 0
Bytes nodes = (v i : ℕ) → get_or (bytes_at nodes v) i 0 < 256

-- what is left of such bytes is such bytes
low_drop : (n : ℕ) (bs : List ℕ) → Low bs → Low (drop n bs)
low_drop n bs low i = rw get_or-drop (low (n + i))

-- a reader whose values have a property, if the bytes are below 256
record Gives {A : Type 0} (r : Reader A) (P : A → Type 0) : Type 0 where
  goes : (s : Rest) (a : A) (t : Rest) → Low s.bytes → r s ≡ Ok (a, t) → P a × Low t.bytes

kept : {A : Type 0} (b : Bool) (x : A) (p : ℕ) (y : A) → cond b (Ok x) (Err p) ≡ Ok y → x ≡ y
kept true x p y e = cc
kept false x p y e = absurd (not_ok e)

word_front : (s : Rest) (w : ℕ) (t : Rest) → word s ≡ Ok (w, t) → w ≡ front s.bytes
unfolding word
word_front s w t e = sym (ap (λ x. x.0) (kept (bare 2 s) (front s.bytes, past 2 s.links s) s.place (w, t) e))

-- a word is below 65536
word_gives : Gives word (λ w. w < 65536)
word_gives = record {
  goes = λ s w t low e.
      let f = word_front s w t e in
      (omega (arith, low 0, low 1), subst (λ (u : Rest). Low u.bytes) (sym (word_ok s w t e).2) (low_drop 2 s.bytes low));
}

allowed_gives : (ok : ℕ → Bool) → Gives (allowed ok) (λ w. (w < 65536) × (ok w ≡ true))
allowed_gives ok = record {
  goes = λ s w t low e.
      let o = allowed_ok ok s w t e in
      let g = word_gives.goes s w t low o.0 in
      ((g.0, o.1), g.1);
}

offset_gives : (w : LinkWidth) → Gives (offset w) (λ v. Unit {0})
offset_gives w = record { goes = λ s v t low e. (tt, subst (λ (u : Rest). Low u.bytes) (sym (offset_ok w s v t e).past') (low_drop (width_of w) s.bytes low)) }

give_gives : {A : Type 0} (P : A → Type 0) (a : A) → P a → Gives (give a) P
give_gives P a h = record { goes = λ s b t low e. let o = ok_pair e in (subst P o.0 h, subst (λ (u : Rest). Low u.bytes) o.1 low) }

then_gives : {A B : Type 0} (r : Reader A) (next : A → Reader B) (P : A → Type 0) (Q : B → Type 0) → Gives r P → ((a : A) → P a → Gives (next a) Q) → Gives (r ⟫ next) Q
then_gives r next P Q one two = record {
  goes = λ s b t low e.
      let o = then_ok (r s) next b t e in
      let g = one.goes s o.0 o.1 low o.2 in
      (two o.0 g.0).goes o.1 b t g.1 o.3;
}

nullable_gives : Gives nullable (λ o. Unit {0})
unfolding nullable
nullable_gives = record {
  goes = λ s a t low e.
      ⊎_elim
      (λ (k : then (allowed (eqb 0) s) (λ w. give None) ≡ Ok (a, t)).
      (then_gives (allowed (eqb 0)) (λ w. give None) _ (λ o. Unit {0}) (allowed_gives (eqb 0)) (λ w h. give_gives (λ o. Unit {0}) None tt)).goes s a t low k)
      (λ (k : then (offset Two s) (λ child. give (Some child)) ≡ Ok (a, t)).
      (then_gives (offset Two) (λ child. give (Some child)) _ (λ o. Unit {0}) (offset_gives Two) (λ v h. give_gives (λ o. Unit {0}) (Some v) tt)).goes s a t low k)
      (either (bare 2 s) (then (allowed (eqb 0) s) (λ w. give None)) (then (offset Two s) (λ child. give (Some child))) (Ok (a, t)) e);
}

-- as many values as were asked for, each with the property
times_gives : {A : Type 0} (r : Reader A) (P : A → Type 0) → Gives r P → (n : ℕ) → Gives (times n r) (λ as'. (length as' ≡ n) × AllByRecursion P as')
times_gives r P one zero = give_gives (λ as'. (length as' ≡ 0) × AllByRecursion P as') [] (refl, tt)
times_gives r P one (suc n) = record {
  goes = λ s as' t low e.
      let o = then_ok (r s) (λ a s'. also a (times n r s')) as' t e in
      let q = also_ok o.0 (times n r o.1) as' t o.3 in
      let g = one.goes s o.0 o.1 low o.2 in
      let h = (times_gives r P one n).goes o.1 q.0 t g.1 q.1 in
      (subst (λ bs. (length bs ≡ suc n) × AllByRecursion P bs) (sym q.2) (ap suc h.0.0, (g.0, h.0.1)), h.1);
}

-- a whole vertex
whole_gives : {A : Type 0} (r : Reader A) (P : A → Type 0) → Gives r P → (x : Node) → Low x.bytes → (a : A) → read r x ≡ Ok a → P a
whole_gives r P one x low a e = let o = ended_ok (r (start x.bytes x.links)) a e in (one.goes (start x.bytes x.links) a o.0 low o.1).0

-- a mark has one of k classes
mark_gives : (k : ℕ) → Gives (mark k) (λ (m : ℕ × Option ℕ). m.0 < k)
mark_gives k =
    then_gives (allowed (λ c. ltb c k)) (λ class. nullable ⟫ λ anchor. give (class, anchor)) _ (λ (m : ℕ × Option ℕ). m.0 < k) (allowed_gives (λ c. ltb c k))
    (λ c h. then_gives nullable (λ anchor. give (c, anchor)) _ (λ (m : ℕ × Option ℕ). m.0 < k) nullable_gives (λ a u. give_gives (λ (m : ℕ × Option ℕ). m.0 < k) (c, a) (ltb-true c k h.1)))

-- n records after their count, which is a word
array_gives : {A : Type 0} (r : Reader A) (P : A → Type 0) → Gives r P → (n : ℕ) → Gives (allowed (eqb n) ⟫ λ count. times n r) (λ as'. (n < 65536) × (length as' ≡ n) × AllByRecursion P as')
array_gives r P one n =
    then_gives (allowed (eqb n)) (λ count. times n r) _ (λ as'. (n < 65536) × (length as' ≡ n) × AllByRecursion P as') (allowed_gives (eqb n))
    (λ w h. record { goes = λ s as' t low e. let g = (times_gives r P one n).goes s as' t low e in let same = eqb-true n w h.1 in let few : n < 65536 = omega (arith, h.0) in ((few, g.0.0, g.0.1), g.1) })

-- from 1 to 65535 classes
abbrev Counted : MarkBasePosFormat1 → Type 0
Counted t = (0 < t.class_count) × (t.class_count < 65536)

subtable_gives : Gives subtable Counted
subtable_gives =
    then_gives (allowed (eqb 1)) _ _ Counted (allowed_gives (eqb 1)) (λ format h.
    then_gives (offset Two) _ _ Counted (offset_gives Two) (λ marks h.
    then_gives (offset Two) _ _ Counted (offset_gives Two) (λ bases h.
    then_gives (allowed (leb 1)) _ _ Counted (allowed_gives (leb 1)) (λ k few.
    then_gives (offset Two) _ _ Counted (offset_gives Two) (λ records h.
    then_gives (offset Two) _ _ Counted (offset_gives Two) (λ rows h.
    give_gives Counted (table marks bases k records rows) (leb-true 1 k few.1, few.0)))))))

lookup_gives : Gives lookup Worded
lookup_gives =
    then_gives (allowed (λ w. is_some (type_from w))) _ _ Worded (allowed_gives (λ w. is_some (type_from w))) (λ kind h.
    then_gives word _ _ Worded word_gives (λ flag small.
    then_gives word _ _ Worded word_gives (λ count h.
    then_gives (times count (offset Two)) _ _ Worded (times_gives (offset Two) _ (offset_gives Two) count) (λ offsets h.
    then_gives (times (filters flag) word) _ _ Worded (times_gives word (λ w. w < 65536) word_gives (filters flag)) (λ filter g.
    give_gives Worded record { kind = unwrap_or (type_from kind) MarkToBase; flag = flag; offsets = offsets; filter = filter } record { flag = small; filter = g.1; filters = g.0 })))))

-- the words of a lookup that is read are below 65536
pub worded : (x : Node) → Low x.bytes → (f : Fields) → read lookup x ≡ Ok f → Worded f
worded x low f e = whole_gives lookup Worded lookup_gives x low f e

-- as many records as glyphs: the glyphs come back, and what holds of each record holds of each pair
glyphs_back : {A X : Type 0} (f : ℕ → A → X) (glyph : X → ℕ) → ((g : ℕ) (a : A) → glyph (f g a) ≡ g) → (gs : List ℕ) (as' : List A) → length as' ≡ length gs → map glyph (paired f gs as') ≡ gs
glyphs_back f glyph back [] as' e = refl
glyphs_back f glyph back (g ∷ gs) [] e = absurd (omega arith)
glyphs_back f glyph back (g ∷ gs) (a ∷ as') e = λ i. back g a i ∷ glyphs_back f glyph back gs as' (omega arith) i

all_paired : {A X : Type 0} (f : ℕ → A → X) (P : A → Type 0) (Q : X → Type 0) → ((g : ℕ) (a : A) → P a → Q (f g a)) → (gs : List ℕ) (as' : List A) → AllByRecursion P as' → AllByRecursion Q (paired f gs as')
all_paired f P Q each [] as' h = tt
all_paired f P Q each (g ∷ gs) [] h = tt
all_paired f P Q each (g ∷ gs) (a ∷ as') h = (each g a h.0, all_paired f P Q each gs as' h.1)

-- a coverage that was read has no link
words_only_lem : (ls : List Link) (x : Result (List ℕ) ℕ) (gs : List ℕ) → words_only ls x ≡ Ok gs → x ≡ Ok gs
words_only_lem [] x gs e = e
words_only_lem (l ∷ ls) (Ok hs) gs e = absurd (not_ok e)
words_only_lem (l ∷ ls) (Err p) gs e = absurd (not_ok e)

-- the glyphs of a coverage that has fewer than 65536
covered : (x : Node) (gs : List ℕ) → Low x.bytes → coverage x ≡ Ok gs → length gs < 65536 → listed gs ≡ true
covered x gs low e few = and_from (ascends 0 gs) (ltb (length gs) 65536) (reads_ascending x.bytes gs low (words_only_lem x.links (read_coverage x.bytes) gs e)) (lt-ltb (length gs) 65536 few)

-- a part that was read, and what then came of it
pub part_ok : {A B : Type 0} (p : Part) (x : Result A ℕ) (next : A → Result B PartFault) (b : B) → (in_part p x ⟩ next) ≡ Ok b → (a : A) × (x ≡ Ok a) × (next a ≡ Ok b)
part_ok p (Ok a) next b e = (a, refl, e)
part_ok p (Err q) next b e = let z : ◌≡◌ {A = ℕ} 0 1 = cc in absurd (omega arith)

pub rest_ok : {A B : Type 0} (x : Result A PartFault) (next : A → Result B PartFault) (b : B) → (x ⟩ next) ≡ Ok b → (a : A) × (x ≡ Ok a) × (next a ≡ Ok b)
rest_ok (Ok a) next b e = (a, refl, e)
rest_ok (Err q) next b e = let z : ◌≡◌ {A = ℕ} 0 1 = cc in absurd (omega arith)

pub ok_same : {A : Type 0} {x y : A} → ◌≡◌ {A = Result A PartFault} (Ok x) (Ok y) → x ≡ y
ok_same e = cc

-- the four parts behind what a subtable holds
record Held (nodes : List Node) (t : MarkBasePosFormat1) (c : Contents) : Type 0 where
  ms : List ℕ
  bs : List ℕ
  records : List (ℕ × Option ℕ)
  rows : List (List (Option ℕ))
  marks : coverage (node_at nodes t.mark_coverage) ≡ Ok ms
  bases : coverage (node_at nodes t.base_coverage) ≡ Ok bs
  mark_array_reader' : read (mark_array_reader (length ms) t.class_count) (node_at nodes t.mark_array) ≡ Ok records
  base_array_reader' : read (base_array_reader (length bs) t.class_count) (node_at nodes t.base_array) ≡ Ok rows
  same : ◌≡◌ {A = Contents} record { marks = paired mark_of ms records; bases = paired base_of bs rows } c

held : (nodes : List Node) (t : MarkBasePosFormat1) (c : Contents) → contents_of nodes t ≡ Ok c → Held nodes t c
held nodes t c e =
    let m = part_ok _ (coverage (node_at nodes t.mark_coverage)) _ c e in
    let b = part_ok _ (coverage (node_at nodes t.base_coverage)) _ c m.2 in
    let r = part_ok _ (read (mark_array_reader (length m.0) t.class_count) (node_at nodes t.mark_array)) _ c b.2 in
    let s = part_ok _ (read (base_array_reader (length b.0) t.class_count) (node_at nodes t.base_array)) _ c r.2 in
    record { ms = m.0; bs = b.0; records = r.0; rows = s.0; marks = m.1; bases = b.1; mark_array_reader' = r.1; base_array_reader' = s.1; same = ok_same s.2 }

module _ (nodes : List Node) (low : Bytes nodes) where
  -- what those hold is well formed
  held_formed : (t : MarkBasePosFormat1) (c : Contents) → Counted t → Held nodes t c → Formed t.class_count c
  held_formed t c some h =
      let k = t.class_count in
      let marks = array_gives (mark k) (λ (a : ℕ × Option ℕ). a.0 < k) (mark_gives k) (length h.ms) in
      let m = whole_gives (mark_array_reader (length h.ms) k) _ marks (node_at nodes t.mark_array) (low t.mark_array) h.records h.mark_array_reader' in
      let bases = array_gives (times k nullable) _ (times_gives nullable (λ o. Unit {0}) nullable_gives k) (length h.bs) in
      let b = whole_gives (base_array_reader (length h.bs) k) _ bases (node_at nodes t.base_array) (low t.base_array) h.rows h.base_array_reader' in
      subst (Formed k) h.same record {
        some = some.0;
        few = some.1;
        marks = ap listed (glyphs_back mark_of (λ (x : Mark). x.glyph) (λ g a. refl) h.ms h.records m.1) ∙ covered (node_at nodes t.mark_coverage) h.ms (low t.mark_coverage) h.marks m.0;
        bases = ap listed (glyphs_back base_of (λ (x : Base). x.glyph) (λ g a. refl) h.bs h.rows b.1) ∙ covered (node_at nodes t.base_coverage) h.bs (low t.base_coverage) h.bases b.0;
        classed = all_paired mark_of (λ (a : ℕ × Option ℕ). a.0 < k) (λ (x : Mark). x.class < k) (λ g a u. u) h.ms h.records m.2;
        rows = all_paired base_of _ (λ (x : Base). length x.row ≡ k) (λ g a u. u.0) h.bs h.rows b.2;
      }

  at_formed : (x : Option ℕ) (v : ℕ) (t : Subtable) → subtable_at nodes x v ≡ Ok t → Formed t.table.class_count t.contents
  at_formed x v t e =
      let a = part_ok _ (read subtable (node_at nodes v)) _ t e in
      let b = rest_ok (contents_of nodes a.0) _ t a.2 in
      let some = whole_gives subtable Counted subtable_gives (node_at nodes v) (low v) a.0 a.1 in
      subst (λ (u : Subtable). Formed u.table.class_count u.contents) (ok_same b.2) (held_formed a.0 b.0 some (held nodes a.0 b.0 b.1))

-- a subtable that is read is well formed
pub formed : (nodes : List Node) → Bytes nodes → (kind : LookupType) (top : ℕ) (t : Subtable) → subtable_of nodes kind top ≡ Ok t → Formed t.table.class_count t.contents
formed nodes low MarkToBase top t e = at_formed nodes low None top t e
formed nodes low Extension top t e = let a = part_ok _ (read extension (node_at nodes top)) _ t e in at_formed nodes low (Some top) a.0.subtable t a.2
