use Rattle.std.proofs.Common.{◌-◌, ◌<◌, length, take, drop, ap, ◌∙◌, not, arith, length-drop, rules}
use Rattle.std.proofs.lemmas.List.{at_drop_all, take_rest}
use Rattle.std.proofs.lemmas.Slice.{first_rest}
use mir.Val.{bool_byte}
use Rattle.coverage_writers.specs.Formats.{runs_from, runs}
use Rattle.coverage_writers.proofs.Counts.{byte_small, counted}
use Rattle.coverage_writers.proofs.format2.CoverageFormat2.count_ranges.Goals as goal

pub loop-glyph-preserved : goal.loop-glyph-preserved
loop-glyph-preserved c =
    let xs = c.args.glyphs.now in
    let rest = take (length xs - 1) (drop 1 xs) in
    let k = c.loop-glyph.glyph-index in
    let n = c.from-count.ensures ∙ ap (λ b. bool_byte (not b)) c.follows.ensures in
    let e = counted rest k c.loop-glyph.end.now c.from-count.result c.loop-glyph-test.true n in
    (omega (arith, c.from-count.ensures, byte_small (not c.follows.result)), omega (arith, e))

pub returns-clause-value : goal.returns-clause-value
returns-clause-value c =
    let xs = c.args.glyphs.now in
    let rest = take (length xs - 1) (drop 1 xs) in
    let h : 0 < length xs = search rules in
    let all = ap (λ l. length (runs l)) (first_rest xs 0 h) in
    let end = at_drop_all (λ l. length (runs_from c.loop-glyph.end.now c.loop-glyph.end.now l)) rest c.loop-glyph.glyph-index c.loop-glyph-test.false in
    omega arith

pub returns-clause-bound : goal.returns-clause-bound
returns-clause-bound c =
    let xs = c.args.glyphs.now in
    omega (arith, ap length (take_rest xs 1), length-drop 1 xs)
