-- The glyphs that a table covers, and where one stands among them.
use Rattle.std.specs.Prelude.{◌≡◌, ℕ, zero, suc, ◌+◌, cond, List, [], ◌∷◌, Some, None, Ok, Err, Option, ◌==◌}
use Rattle.layout.specs.Format.{Read, read_coverage}

-- the glyphs of what was read
abbrev pub given : Read → List ℕ
given (Ok gs) = gs
given (Err p) = []

-- the glyphs that a table covers
abbrev pub covered : List ℕ → List ℕ
covered bs = given (read_coverage bs)

-- these bytes are a table
abbrev pub Sound : List ℕ → Type 0
Sound bs = read_coverage bs ≡ Ok (covered bs)

-- the index of the glyph g in a list whose first index is i
abbrev pub index_in : ℕ → ℕ → List ℕ → Option ℕ
index_in g i [] = None
index_in g i (x ∷ xs) = cond (x == g) (Some i) (index_in g (i + 1) xs)

-- the glyph at an index
abbrev pub glyph_at : List ℕ → ℕ → Option ℕ
glyph_at [] i = None
glyph_at (g ∷ gs) zero = Some g
glyph_at (g ∷ gs) (suc i) = glyph_at gs i
