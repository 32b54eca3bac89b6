use Rattle.std.proofs.Common.{◌≡◌, ◌+◌, ◌-◌, Some, refl, ap, ◌∙◌, arith, rules}
use Rattle.layout.proofs.Tables.{index_small, index_least, stands_more, stands_past, stands_glyph}
use Rattle.layout.proofs.coverage.glyphs.GlyphsIterator.next.Goals as goal
use Rattle.layout.proofs.coverage.glyphs.GlyphsIterator.next.Goals.{then-glyph-range, else-glyph-range}
use Rattle.std.proofs.iter.Next.{firm}

pub overflow_add-self : goal.overflow_add-self
overflow_add-self c =
    let now = c.args.self.now in
    let r = c.in_ok-range.ensures in
    omega (arith, r.1.start, index_small now.coverage.bytes.now now.stands.sound now.range r.0, index_least now.coverage.bytes.now now.stands.sound now.range r.0)

pub invariant_of-self-2 : goal.invariant_of-self-2
invariant_of-self-2 c =
    let now = c.args.self.now in
    let bs = now.coverage.bytes.now in
    let within = c.in_ok-range.ensures.0 in
    let r = c.in_ok-range.ensures.1 in
    let here = now.stands.here within in
    elim c.if-glyph-range.branch [
      | then-glyph-range w ↦ rw w.self-is (record { stands = stands_past bs now.range now.index now.stands within (omega arith) })
      | else-glyph-range w ↦ let other = w.if-glyph-range.false in rw w.self-is (record { stands = stands_more bs now.range now.index now.stands within (omega arith) })
    ]

pub returns : goal.returns
returns c =
    let now = c.args.self.now in
    let r = c.in_ok-range.ensures.1 in
    let at = stands_glyph now.coverage.bytes.now now.range now.index _ _ _ now.stands c.in_ok-range.ensures.0 r in
    let z : c.in_ok-range.range.start + (now.index - c.in_ok-range.range.index) ≡ c.in_ok-range.range.start + (now.index - c.from.result) = omega arith in
    record { steps = (refl, (refl, at.0 ∙ ap Some z, refl)); goes = firm (tt, tt, omega arith) (λ h. search rules) }
