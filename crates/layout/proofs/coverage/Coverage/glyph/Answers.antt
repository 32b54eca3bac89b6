use Rattle.std.proofs.Common.{◌≡◌, ◌+◌, ◌-◌, Some, sym, ap, ◌∙◌, arith}
use Rattle.layout.specs.Records.{start_of, index_of}
use Rattle.layout.proofs.Tables.{index_found, index_absent}
use Rattle.layout.proofs.coverage.Coverage.glyph.Goals as goal

pub returns-in_err-range : goal.returns-in_err-range
returns-in_err-range c = c.from_residual.ensures ∙ sym (index_absent c.args.self.now.bytes.now c.args.self.now.sound c.args.index c.in_err-range.ensures)

pub returns : goal.returns
returns c =
    let bs = c.args.self.now.bytes.now in
    let h = c.in_ok-range.ensures in
    let r = h.2 in
    let z : start_of bs h.0 + (c.args.index - index_of bs h.0) ≡ c.in_ok-range.range.start + (c.args.index - c.from.result) = omega arith in
    sym (index_found bs c.args.self.now.sound c.args.index h.0 h.1 h.3 ∙ ap Some z)
