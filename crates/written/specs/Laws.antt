-- Reading undoes writing, and links lead where the values say.
use Rattle.std.specs.Prelude.{◌≡◌, ℕ, ◌+◌, ◌*◌, ◌<◌, ◌≤◌, List, [], ◌∷◌, map, length, Ok, Option}
use Rattle.std.specs.List.{flat_map, AllByRecursion}
use Rattle.serialize.specs.Objects.{Node, Ascends, LinksFit}
use Rattle.walk.specs.Computed.{children}
use Rattle.fields.specs.Fields.{Reader}
use Rattle.fields.specs.Arrays.{mark_array_reader, base_array_reader, present}
use Rattle.markbase.specs.declared.table.MarkBasePosFormat1.{MarkBasePosFormat1}
use Rattle.markbase.specs.Nodes.{read}
use Rattle.markbase.specs.Tables.{subtable, extension}
use Rattle.lookups.specs.Tables.{Fields, lookup, filters}
use Rattle.written.specs.Writing.{Written, as_mark_array, as_base_array, as_subtable, as_extension, as_lookup, vertex_of}

-- a vertex's own part of a sound object graph of so many vertices
abbrev pub SoundVertex : ℕ → Node → Type 0
SoundVertex count x = Ascends x.links × LinksFit count x

-- what is written reads as the value, and is sound wherever its links lead to vertices
pub record ReadsAs {A : Type 0} (r : Reader A) (a : A) (x : Written) : Type 0 where
  pub reads : read r (vertex_of x) ≡ Ok a
  pub sound : (count : ℕ) → AllByRecursion (λ c. c < count) (children (vertex_of x)) → SoundVertex count (vertex_of x)

-- mark arrays: classes below the class count, and fewer marks than a word can count
abbrev pub MarksComeBack : Type 0
MarksComeBack = (k : ℕ) (ms : List (ℕ × Option ℕ)) → k ≤ 65536 → length ms < 65536 → AllByRecursion (λ m. m.0 < k) ms → ReadsAs (mark_array_reader (length ms) k) ms (as_mark_array ms)

-- base arrays: an anchor or a null for each class
abbrev pub BasesComeBack : Type 0
BasesComeBack = (k : ℕ) (rows : List (List (Option ℕ))) → length rows < 65536 → AllByRecursion (λ row. length row ≡ k) rows → ReadsAs (base_array_reader (length rows) k) rows (as_base_array rows)

-- subtables: at least one class
abbrev pub SubtablesComeBack : Type 0
SubtablesComeBack = (t : MarkBasePosFormat1) → 0 < t.class_count → t.class_count < 65536 → ReadsAs subtable t (as_subtable t)

-- extensions
abbrev pub ExtensionsComeBack : Type 0
ExtensionsComeBack = (child : ℕ) → ReadsAs extension (record { subtable = child }) (as_extension child)

-- lookups: a mark filtering set exactly where the flag says so
abbrev pub LookupsComeBack : Type 0
LookupsComeBack = (l : Fields) → l.flag < 65536 → length l.offsets < 65536 → AllByRecursion (λ w. w < 65536) l.filter → length l.filter ≡ filters l.flag → ReadsAs lookup l (as_lookup l)

-- whatever vertex reads so, its links lead to just these vertices, in this order
abbrev pub LeadsTo : {A : Type 0} → Reader A → (A → List ℕ) → Type 0
LeadsTo {A} r targets = (count : ℕ) (x : Node) → SoundVertex count x → (a : A) → read r x ≡ Ok a → children x ≡ targets a

-- the links of the tables
pub record LinksLead : Type 0 where
  pub marks : (n k : ℕ) → LeadsTo (mark_array_reader n k) (λ ms. present (map (λ m. m.1) ms))
  pub bases : (n k : ℕ) → LeadsTo (base_array_reader n k) (λ rows. present (flat_map (λ row. row) rows))
  pub table : LeadsTo subtable (λ t. t.mark_coverage ∷ t.base_coverage ∷ t.mark_array ∷ t.base_array ∷ [])
  pub behind : LeadsTo extension (λ x. x.subtable ∷ [])
  pub lookups : LeadsTo lookup (λ l. l.offsets)

-- how long the tables are
pub record Lengths : Type 0 where
  pub marks : (ms : List (ℕ × Option ℕ)) → length (as_mark_array ms).bytes ≡ 2 + 4 * length ms
  pub bases : (k : ℕ) (rows : List (List (Option ℕ))) → AllByRecursion (λ row. length row ≡ k) rows → length (as_base_array rows).bytes ≡ 2 + 2 * length rows * k
  pub table : (t : MarkBasePosFormat1) → length (as_subtable t).bytes ≡ 12
  pub behind : (child : ℕ) → length (as_extension child).bytes ≡ 8
  pub lookups : (l : Fields) → length (as_lookup l).bytes ≡ 6 + 2 * length l.offsets + 2 * length l.filter
