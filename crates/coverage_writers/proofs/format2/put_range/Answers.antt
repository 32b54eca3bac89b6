use Rattle.std.proofs.Common.{◌≡◌, ◌+◌, [], ◌∷◌, ◌++◌, take, drop, refl, ap, ◌∙◌, arith}
use Rattle.coverage_writers.specs.Formats.{word_bytes, bytes_of}
use Rattle.coverage_writers.proofs.Runs.{block_more}
use Rattle.coverage_writers.proofs.format2.put_range.Goals as goal

pub returns : goal.returns
returns c =
    let o = c.args.out.now in
    let at = c.args.at in
    let four : at + 2 + 2 ≡ at + 4 = omega arith in
    let six : at + 4 + 2 ≡ at + 6 = omega arith in
    let r = c.args.range in
    let two = c.put_word-2.ensures ∙ block_more o c.put_word.new.out (word_bytes r.start) (word_bytes r.end) at (at + 2) 2 refl (omega arith) c.put_word.ensures
    ∙ ap (λ n. take at o ++ ((word_bytes r.start ++ word_bytes r.end) ++ drop n o)) four in
    c.put_word-3.ensures ∙ block_more o c.put_word-2.new.out (word_bytes r.start ++ word_bytes r.end) (word_bytes r.index) at (at + 4) 2 refl (omega arith) two
    ∙ ap (λ n. take at o ++ (bytes_of (r.start ∷ r.end ∷ r.index ∷ []) ++ drop n o)) six
