-- Hits: what a subtable says of a mark and a base.
use Rattle.std.specs.Prelude.{ℕ, cond, List, [], ◌∷◌, Some, None, Ok, Err, Option, Result, ◌==◌, slice_index_or}
use Rattle.serialize.specs.Objects.{Node}
use Rattle.markbase.specs.declared.fault.PartFault.{PartFault}
use Rattle.markbase.specs.declared.hits.Hit.{Hit}
use Rattle.markbase.specs.declared.table.MarkBasePosFormat1.{MarkBasePosFormat1}
use Rattle.markbase.specs.Values.{Mark, Base, Contents}
use Rattle.markbase.specs.Parts.{contents_of}

-- the first with this glyph
abbrev pub find : {X : Type 0} → (X → ℕ) → List X → ℕ → Option X
find key [] g = None
find key (x ∷ xs) g = cond (key x == g) (Some x) (find key xs g)

-- a mark by its glyph
abbrev pub mark_in : Contents → ℕ → Option Mark
mark_in c g = find (λ (m : Mark). m.glyph) c.marks g

-- a base by its glyph
abbrev pub base_in : Contents → ℕ → Option Base
base_in c g = find (λ (b : Base). b.glyph) c.bases g

-- a mark and a base meet at the mark's anchor and the base's anchor for the mark's class
abbrev pub meet : Option Mark → Option Base → Option Hit
meet (Some m) (Some b) = Some record { mark = m.anchor; base = slice_index_or b.row m.class None }
meet (Some m) None = None
meet None b = None

-- the hit of a mark and a base: there is one if both are covered
abbrev pub hit_of : Contents → ℕ → ℕ → Option Hit
hit_of c m b = meet (mark_in c m) (base_in c b)

-- what parts that were read hold
abbrev pub given : Result Contents PartFault → Contents
given (Ok c) = c
given (Err f) = record { marks = []; bases = [] }

-- what the parts of a table hold
abbrev pub contents_at : List Node → MarkBasePosFormat1 → Contents
contents_at nodes t = given (contents_of nodes t)

-- a mark as the record of an array: its class and its anchor
abbrev pub record_of : Option Mark → Option (ℕ × Option ℕ)
record_of (Some m) = Some (m.class, m.anchor)
record_of None = None

-- a base's anchor for a class
abbrev pub anchor_of : ℕ → Option Base → Option (Option ℕ)
anchor_of class (Some b) = Some (slice_index_or b.row class None)
anchor_of class None = None
