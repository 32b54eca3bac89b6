-- Pieces: what a subtable holds, cut by runs of its classes. The run a .. b holds the classes from a up to, and not including, b.
use Rattle.std.specs.Prelude.{◌≡◌, ℕ, ◌-◌, ◌<◌, Bool, true, ◌&&◌, List, [], ◌∷◌, map, length, take, drop, filter, nat_le, nat_lt}
use Rattle.std.specs.List.{AllByRecursion}
use Rattle.coverage_writers.specs.Writing.{listed}
use Rattle.markbase.specs.Values.{Mark, Base, Contents}

-- the mark's class is one of the run
abbrev pub in_run : ℕ → ℕ → Mark → Bool
in_run a b m = nat_le a m.class && nat_lt m.class b

-- its class counted from a
abbrev pub renumbered : ℕ → Mark → Mark
renumbered a m = record { glyph = m.glyph; class = m.class - a; anchor = m.anchor }

-- a base with the anchors of the run
abbrev pub row_part : ℕ → ℕ → Base → Base
row_part a b s = record { glyph = s.glyph; row = take (b - a) (drop a s.row) }

-- the marks of the run in their order, and every base with its part of the row, nulls included
abbrev pub piece : Contents → ℕ → ℕ → Contents
piece c a b = record { marks = map (renumbered a) (filter (in_run a b) c.marks); bases = map (row_part a b) c.bases }

-- f of each run that the places cut a .. k into
abbrev pub each_run : {X : Type 0} → (ℕ → ℕ → X) → ℕ → ℕ → List ℕ → List X
each_run f a k [] = f a k ∷ []
each_run f a k (p ∷ ps) = f a p ∷ each_run f p k ps

-- the pieces of k classes that are cut at these places
abbrev pub pieces : ℕ → Contents → List ℕ → List Contents
pieces k c ps = each_run (piece c) 0 k ps

-- the glyphs of the marks
abbrev pub mark_glyphs : Contents → List ℕ
mark_glyphs c = map (λ (m : Mark). m.glyph) c.marks

-- the glyphs of the bases
abbrev pub base_glyphs : Contents → List ℕ
base_glyphs c = map (λ (b : Base). b.glyph) c.bases

-- what every subtable of k classes holds: glyphs that a coverage can list, classes below k, an anchor or a null for each class
pub record Formed (k : ℕ) (c : Contents) : Type 0 where
  pub some : 0 < k
  pub few : k < 65536
  pub marks : listed (mark_glyphs c) ≡ true
  pub bases : listed (base_glyphs c) ≡ true
  pub classed : AllByRecursion (λ (m : Mark). m.class < k) c.marks
  pub rows : AllByRecursion (λ (b : Base). length b.row ≡ k) c.bases
