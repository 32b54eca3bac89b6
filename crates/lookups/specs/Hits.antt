-- The hits of a mark and a base in a lookup.
use Rattle.std.specs.Prelude.{ℕ, List, [], ◌∷◌, Some, None, Ok, Err, Option, Result}
use Rattle.markbase.specs.declared.fault.PartFault.{PartFault}
use Rattle.markbase.specs.declared.hits.Hit.{Hit}
use Rattle.markbase.specs.Values.{Contents, Subtable}
use Rattle.markbase.specs.Hits.{hit_of}
use Rattle.lookups.specs.declared.fault.LookupFault.{LookupFault}
use Rattle.lookups.specs.Values.{LookupValue}

-- a hit, if there is one, and then the others
abbrev pub joined : Option Hit → List Hit → List Hit
joined (Some h) hs = h ∷ hs
joined None hs = hs

-- the hits of subtables, in their order
abbrev pub hits_in : List Subtable → ℕ → ℕ → List Hit
hits_in [] m b = []
hits_in (t ∷ ts) m b = joined (hit_of t.contents m b) (hits_in ts m b)

-- the hits of a lookup
abbrev pub hits : LookupValue → ℕ → ℕ → List Hit
hits l m b = hits_in l.subtables m b

-- the first of some hits
abbrev pub first : List Hit → Option Hit
first [] = None
first (h ∷ hs) = Some h

-- the first hit of a lookup
abbrev pub attach : LookupValue → ℕ → ℕ → Option Hit
attach l m b = first (hits l m b)

-- the same of a lookup that was read
abbrev pub attach_in : Result LookupValue LookupFault → ℕ → ℕ → Option Hit
attach_in (Ok l) m b = attach l m b
attach_in (Err f) m b = None

-- what a subtable that was read holds
abbrev pub contents_in : Result Subtable PartFault → Contents
contents_in (Ok t) = t.contents
contents_in (Err f) = record { marks = []; bases = [] }
