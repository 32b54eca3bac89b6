use Rattle.std.proofs.Common.{◌≡◌, ◌+◌, ◌*◌, ◌∷◌, ◌++◌, length, take, drop}
use Rattle.coverage_writers.specs.Formats.{bytes_of}
use Rattle.coverage_writers.proofs.format1.CoverageFormat1Format.put_table.Given as goal

-- the count and the glyphs so far are written
abbrev pub invariant-loop-i : goal.invariant-loop-i
invariant-loop-i l = l.out ≡ bytes_of (1 ∷ length l.glyphs ∷ take l.i l.glyphs) ++ drop (4 + 2 * l.i) l.initial.out
