-- The fields in the words of the format, whatever the order in which they are read.
use Rattle.std.specs.Prelude.{◌≡◌, ℕ, ◌+◌, ◌<◌, ◌≤◌, List, length, Some, None, Ok, Result}
use Rattle.serialize.specs.declared.link.Link.{Link}
use Rattle.serialize.specs.declared.link.LinkWidth.{LinkWidth}
use Rattle.serialize.specs.declared.link.LinkWidth.TheVariants.{Two}
use Rattle.serialize.specs.Objects.{Node, link_at, word_at, Ascends, LinksFit}
use Rattle.fields.specs.Fields.{Rest, word, offset, nullable, seek}

-- a link starts in the w bytes from p on
abbrev pub StartsIn : List Link → ℕ → ℕ → Type 0
StartsIn ls p w = (i : ℕ) × (i < length ls) × (p ≤ (link_at ls i).position) × ((link_at ls i).position < p + w)

-- a link of this width stands at p, and points at this vertex
abbrev pub Has : List Link → ℕ → LinkWidth → ℕ → Type 0
Has ls p w child = (i : ℕ) × (i < length ls) × (link_at ls i ≡ record { position = p; child = child; width = w })

-- two bytes at p that spell a word, and in which no link starts
abbrev pub HasWord : Node → ℕ → ℕ → Type 0
HasWord x p w = (p + 2 ≤ length x.bytes) × (StartsIn x.links p 2 → ⊥) × (w ≡ word_at x.bytes p)

-- the field is not broken, and this is its value
abbrev pub Is : {A : Type 0} → Result (A × Rest) ℕ → A → Type 0
Is read a = (t : Rest) × (read ≡ Ok (a, t))

-- each says the other
abbrev pub Iff : Type 0 → Type 0 → Type 0
Iff P Q = (P → Q) × (Q → P)

-- what is left of a vertex from p on
abbrev pub at : Node → ℕ → Rest
at x p = seek p x.bytes x.links

-- a word
abbrev pub WordMeans : Type 0
WordMeans = (count : ℕ) (x : Node) → Ascends x.links × LinksFit count x → (p w : ℕ) → p ≤ length x.bytes → Iff (Is (word (at x p)) w) (HasWord x p w)

-- an offset
abbrev pub OffsetMeans : Type 0
OffsetMeans = (count : ℕ) (x : Node) → Ascends x.links × LinksFit count x → (p : ℕ) (w : LinkWidth) (child : ℕ) → Iff (Is (offset w (at x p)) child) (Has x.links p w child)

-- an offset of two bytes, or a null: a word that is zero
abbrev pub NullableMeans : Type 0
NullableMeans = (count : ℕ) (x : Node) → Ascends x.links × LinksFit count x → (p : ℕ) → p ≤ length x.bytes
    → ((child : ℕ) → Iff (Is (nullable (at x p)) (Some child)) (Has x.links p Two child)) × Iff (Is (nullable (at x p)) None) (HasWord x p 0)
