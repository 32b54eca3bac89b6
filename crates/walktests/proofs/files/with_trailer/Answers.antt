use Rattle.std.proofs.Common.{◌≡◌, ℕ, ◌+◌, ◌*◌, List, [], ◌∷◌, ◌++◌, length, refl, ap, ◌∙◌, arith, length-append}
use Rattle.walktests.specs.Files.{words, records_bytes, trailer_words}
use Rattle.walktests.proofs.files.with_trailer.Goals as goal

length-words : (ns : List ℕ) → length (words ns) ≡ 4 * length ns
length-words [] = refl
length-words (n ∷ ns) = let r = length-words ns in omega arith

pub returns : goal.returns
returns c =
    let area = c.args.area.now in
    let lengths = c.args.lengths.now in
    let records = c.args.records.now in
    let front : c.put.new.file.items ≡ area ++ words lengths = c.in_ok-put.ensures ∙ ap (λ (bs : List ℕ). bs ++ words lengths) c.in_ok-file.ensures.items in
    let body : c.put_records.new.file.items ≡ area ++ words lengths ++ records_bytes records = c.in_ok-put_records.ensures ∙ ap (λ (bs : List ℕ). bs ++ records_bytes records) front in
    let long : length (area ++ words lengths) ≡ length area + 4 * length lengths = omega (arith, length-append area (words lengths), length-words lengths) in
    let at : c.len-records_at.result ≡ length area + 4 * length lengths = omega (arith, c.len-records_at.ensures, c.put.new.file.ok.0, ap (λ (bs : List ℕ). length bs) front, long) in
    let ws : c.word.result ∷ c.word-2.result ∷ c.word-3.result ∷ c.word-4.result ∷ c.word-5.result ∷ [] ≡ trailer_words (length area) (length lengths) (length records) c.args.off = cc in
    c.in_ok-put-2.ensures ∙ (ap (λ (bs : List ℕ). bs ++ words (c.word.result ∷ c.word-2.result ∷ c.word-3.result ∷ c.word-4.result ∷ c.word-5.result ∷ [])) body
    ∙ ap (λ (ns : List ℕ). area ++ words lengths ++ records_bytes records ++ words ns) ws)
