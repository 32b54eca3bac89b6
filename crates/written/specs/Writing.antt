-- What values are written as: the reading of a table, turned round.
use Rattle.std.specs.Prelude.{ℕ, ◌+◌, ◌/◌, ◌%◌, List, [], ◌∷◌, ◌++◌, length, replicate, Some, None, Option}
use Rattle.serialize.specs.declared.link.Link.{Link}
use Rattle.serialize.specs.declared.link.LinkWidth.{LinkWidth}
use Rattle.serialize.specs.declared.link.LinkWidth.TheVariants.{Two, Four}
use Rattle.serialize.specs.Width.{width_of}
use Rattle.serialize.specs.Objects.{Node}
use Rattle.markbase.specs.declared.table.MarkBasePosFormat1.{MarkBasePosFormat1}
use Rattle.markbase.specs.declared.lookup_type.LookupType.{LookupType}
use Rattle.markbase.specs.declared.lookup_type.LookupType.TheVariants.{MarkToBase, Extension}
use Rattle.lookups.specs.Tables.{Fields}

-- bytes, and the links in them if the first byte stands at a place
pub record Written : Type 0 where
  pub bytes : List ℕ
  pub links : ℕ → List Link

-- one behind the other
infixr 10 ◌⊕◌
abbrev pub ◌⊕◌ : Written → Written → Written
a ⊕ b = record { bytes = a.bytes ++ b.bytes; links = λ p. a.links p ++ b.links (p + length a.bytes) }

-- no bytes
abbrev pub nothing : Written
nothing = record { bytes = []; links = λ p. [] }

-- each of a list, one behind the other
abbrev pub each : {A : Type 0} → (A → Written) → List A → Written
each f [] = nothing
each f (x ∷ xs) = f x ⊕ each f xs

-- a word: two bytes, the high one first
abbrev pub as_word : ℕ → Written
as_word w = record { bytes = w / 256 % 256 ∷ w % 256 ∷ []; links = λ p. [] }

-- an offset: zero bytes, and a link to a vertex
abbrev pub as_offset : LinkWidth → ℕ → Written
as_offset w child = record { bytes = replicate (width_of w) 0; links = λ p. record { position = p; child = child; width = w } ∷ [] }

-- an offset of two bytes, or a null: zero bytes and no link
abbrev pub as_nullable : Option ℕ → Written
as_nullable (Some child) = as_offset Two child
as_nullable None = as_word 0

-- a mark: its class and its anchor
abbrev pub as_mark : ℕ × Option ℕ → Written
as_mark m = as_word m.0 ⊕ as_nullable m.1

-- a mark array: the count, and then the marks
abbrev pub as_mark_array : List (ℕ × Option ℕ) → Written
as_mark_array ms = as_word (length ms) ⊕ each as_mark ms

-- a base array: the count, and then for each base its anchors
abbrev pub as_base_array : List (List (Option ℕ)) → Written
as_base_array rows = as_word (length rows) ⊕ each (each as_nullable) rows

-- a subtable: format 1, both coverages, the class count, both arrays
abbrev pub as_subtable : MarkBasePosFormat1 → Written
as_subtable t = as_word 1 ⊕ as_offset Two t.mark_coverage ⊕ as_offset Two t.base_coverage ⊕ as_word t.class_count ⊕ as_offset Two t.mark_array ⊕ as_offset Two t.base_array

-- an extension: format 1, type 4, and the subtable
abbrev pub as_extension : ℕ → Written
as_extension child = as_word 1 ⊕ as_word 4 ⊕ as_offset Four child

-- the word of a lookup's type
abbrev pub type_word : LookupType → ℕ
type_word MarkToBase = 4
type_word Extension = 9

-- a lookup: type, flag, count, the offsets, and the mark filtering set if there is one
abbrev pub as_lookup : Fields → Written
as_lookup l = as_word (type_word l.kind) ⊕ as_word l.flag ⊕ as_word (length l.offsets) ⊕ each (as_offset Two) l.offsets ⊕ each as_word l.filter

-- a vertex that holds just this
abbrev pub vertex_of : Written → Node
vertex_of x = record { bytes = x.bytes; links = x.links 0 }
