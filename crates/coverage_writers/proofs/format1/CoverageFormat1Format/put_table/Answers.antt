use Rattle.std.proofs.Common.{◌≡◌, ℕ, ◌+◌, ◌*◌, List, ◌∷◌, ◌++◌, length, get_or, take, drop, sym, ◌∙◌, arith}
use Rattle.std.proofs.lemmas.List.{take_more, length-take-le}
use Rattle.coverage_writers.specs.Formats.{bytes_of}
use Rattle.coverage_writers.specs.WriterLaws.{length-format1}
use Rattle.coverage_writers.proofs.Writes.{put_next}
use Rattle.coverage_writers.proofs.format1.CoverageFormat1Format.put_table.Goals as goal

pub put_word-requires-in-loop-i : goal.put_word-requires-in-loop-i
put_word-requires-in-loop-i c = omega (arith, length-format1 c.args.glyphs.now)

pub loop-i-preserved : goal.loop-i-preserved
loop-i-preserved c =
    let gs = c.args.glyphs.now in
    let i = c.loop-i.i in
    let ws : List ℕ = 1 ∷ length gs ∷ take i gs in
    let long = length-take-le i gs (omega arith) in
    let next : 4 + 2 * (i + 1) ≡ 4 + 2 * i + 2 = omega arith in
    let e = put_next ws c.put_word-2.new.out c.loop-i.out (4 + 2 * i) (get_or gs i 0) (omega arith) c.loop-i.invariant in
    c.put_word-in-loop-i.ensures ∙ e ∙ (λ j. bytes_of (1 ∷ length gs ∷ sym (take_more gs i 0 c.loop-i-test.true) j) ++ drop (sym next j) c.put_word-2.new.out)
