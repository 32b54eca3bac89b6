use Rattle.std.proofs.Common.{◌+◌, ◌-◌, ◌∙◌, arith}
use Rattle.layout.proofs.Steps.{glyph_next}
use Rattle.layout.proofs.reader.Reader.glyphs.Goals as goal

pub loop-preserved : goal.loop-preserved
loop-preserved c =
    let h = c.in_ok-glyph.ensures in
    let e = glyph_next (c.args.count - c.loop.counter) (c.args.count - (c.loop.counter + 1)) c.loop.low c.loop.self.place c.loop.self.rest.now (omega arith) h.found.0 (omega arith) in
    rw (c.from-low.ensures, h.found.1, h.behind.0, h.behind.1) (c.loop.invariant ∙ e)
