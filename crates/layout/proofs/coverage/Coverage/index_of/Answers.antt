use Rattle.std.proofs.Common.{◌≡◌, ◌+◌, ◌-◌, Some, sym, ap, ◌∙◌, arith}
use Rattle.layout.specs.Records.{start_of, index_of}
use Rattle.layout.proofs.Tables.{glyph_found, glyph_absent, index_small}
use Rattle.layout.proofs.coverage.Coverage.index_of.Goals as goal

pub returns-in_err-range : goal.returns-in_err-range
returns-in_err-range c =
    let bs = c.args.self.now.bytes.now in
    c.from_residual.ensures ∙ sym (glyph_absent bs c.args.self.now.sound c.args.glyph c.in_err-range.ensures)

pub overflow_add-result : goal.overflow_add-result
overflow_add-result c =
    let bs = c.args.self.now.bytes.now in
    let h = c.in_ok-range.ensures in
    let r = h.2 in
    omega (arith, index_small bs c.args.self.now.sound h.0 h.1)

pub returns : goal.returns
returns c =
    let bs = c.args.self.now.bytes.now in
    let h = c.in_ok-range.ensures in
    let r = h.2 in
    let z : index_of bs h.0 + (c.args.glyph - start_of bs h.0) ≡ c.in_ok-range.range.index + (c.args.glyph - c.in_ok-range.range.start) = omega arith in
    sym (glyph_found bs c.args.self.now.sound c.args.glyph h.0 h.1 h.3 ∙ ap Some z)
