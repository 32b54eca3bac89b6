use Rattle.std.proofs.Common.{◌≡◌, ◌+◌, ◌≤◌, length, drop}
use Rattle.coverage_writers.specs.Formats.{runs_from}
use Rattle.coverage_writers.proofs.format2.CoverageFormat2.count_ranges.Given as goal

-- the runs that are counted, and those behind the glyph `end`
abbrev pub invariant-loop-glyph : goal.invariant-loop-glyph
invariant-loop-glyph l = (l.count ≤ l.glyph-index + 1) × (length (runs_from l.initial.end l.initial.end l.rest) + 1 ≡ l.count + length (runs_from l.end l.end (drop l.glyph-index l.rest)))
