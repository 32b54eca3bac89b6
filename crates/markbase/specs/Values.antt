-- A subtable as a value. An anchor is a vertex number, or none where it is null.
use Rattle.std.specs.Prelude.{ℕ, List, Option}
use Rattle.markbase.specs.declared.table.MarkBasePosFormat1.{MarkBasePosFormat1}

-- a mark: its glyph, its class and its anchor
pub record Mark : Type 0 where
  pub glyph : ℕ
  pub class : ℕ
  pub anchor : Option ℕ

-- a base: its glyph, and an anchor for each class
pub record Base : Type 0 where
  pub glyph : ℕ
  pub row : List (Option ℕ)

-- what the coverages and arrays of a subtable hold
pub record Contents : Type 0 where
  pub marks : List Mark
  pub bases : List Base

-- a subtable: the vertices of its extension, if it has one, and of itself, its class count with the vertices of the other parts, and what those hold
pub record Subtable : Type 0 where
  pub extension : Option ℕ
  pub vertex : ℕ
  pub table : MarkBasePosFormat1
  pub contents : Contents
