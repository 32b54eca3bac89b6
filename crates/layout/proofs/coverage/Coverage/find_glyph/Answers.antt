use Rattle.std.proofs.Common.{◌+◌, ◌-◌, ◌/◌, arith}
use Rattle.layout.proofs.Tables.{glyphs_before, glyphs_after}
use Rattle.layout.proofs.coverage.Coverage.find_glyph.Goals as goal

pub loop-low-preserved-then-range-glyph : goal.loop-low-preserved-then-range-glyph
loop-low-preserved-then-range-glyph c =
    let m = c.loop-low.low + (c.loop-low.high - c.loop-low.low) / 2 in
    let r = c.in_ok-range.ensures in
    (c.loop-low.invariant.0, glyphs_before c.args.self.now.bytes.now c.args.self.now.sound c.args.glyph m r.0 (omega (arith, r.1.start, r.1.end, r.1.index)), c.loop-low.invariant.2)

pub loop-low-preserved : goal.loop-low-preserved
loop-low-preserved c =
    let m = c.loop-low.low + (c.loop-low.high - c.loop-low.low) / 2 in
    let r = c.in_ok-range.ensures in
    (omega (arith, r.0), c.loop-low.invariant.1, glyphs_after c.args.self.now.bytes.now c.args.self.now.sound c.args.glyph m r.0 (omega (arith, r.1.start, r.1.index)))
