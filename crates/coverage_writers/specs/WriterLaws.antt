-- Lemmas on which the law of each writer rests: what it writes reads back as the list, and a list without a table is no list of a coverage.
use Rattle.std.specs.Prelude.{◌≡◌, ℕ, zero, suc, ◌+◌, ◌-◌, ◌*◌, ◌/◌, ◌%◌, ◌<◌, ◌≤◌, true, false, ◌&&◌, List, [], ◌∷◌, ◌++◌, length, Some, None, Ok, nat_le, nat_lt, refl, ◌==◌, ◌≢◌}
use Rattle.std.proofs.Common.{sym, ap, subst, ◌∙◌, append_assoc, arith, ⊎_elim}
use Rattle.std.proofs.lemmas.Bool.{le-leb, lt-leb, ltb-true, leb-true, and_parts, cond-true, cond-false, cases_eq, cases_lt, eq-eqb, ne_eqb}
use Rattle.layout.specs.Format.{Read, word, field, allowed, also, glyphs, read_coverage, run, ranges}
use Rattle.coverage_writers.specs.Writing.{ascends, listed, Means, Lawful}
use Rattle.coverage_writers.specs.Formats.{word_bytes, bytes_of, format1, meaning_by, meaning1, runs_from, runs, range_words, format2, table_of, table_meaning}
use Rattle.layout.proofs.Steps.{glyph_then, start_then, end_then, index_then, allowed_so}

pub length-bytes_of : (ws : List ℕ) → length (bytes_of ws) ≡ 2 * length ws
length-bytes_of [] = refl
length-bytes_of (w ∷ ws) = omega (arith, length-bytes_of ws)

pub whole : (w : ℕ) → w < 65536 → word (w / 256 % 256) (w % 256) ≡ w
whole w h = omega arith

pub field_word : (p : ℕ) (next : ℕ → List ℕ → Read) (w : ℕ) (bs : List ℕ) → w < 65536 → field p next (word_bytes w ++ bs) ≡ next w bs
field_word p next w bs h = ap (λ v. next v bs) (whole w h)

pub glyphs_back : (gs : List ℕ) (low p : ℕ) → ascends low gs ≡ true → glyphs (length gs) low p (bytes_of gs) ≡ Ok gs
glyphs_back [] low p h = refl
glyphs_back (g ∷ gs) low p h =
    let a = and_parts (nat_le low g) (nat_lt g 65536 && ascends (g + 1) gs) h in
    let b = and_parts (nat_lt g 65536) (ascends (g + 1) gs) a.1 in
    field_word p (glyph_then (length gs) low p) g (bytes_of gs) (ltb-true g 65536 b.0)
    ∙ ap (λ t. allowed t p (also (g ∷ []) (glyphs (length gs) (g + 1) (p + 2) (bytes_of gs)))) a.0
    ∙ ap (also (g ∷ [])) (glyphs_back gs (g + 1) (p + 2) b.1)

pub format1_back : (gs : List ℕ) → listed gs ≡ true → read_coverage (format1 gs) ≡ Ok gs
format1_back gs h =
    let a = and_parts (ascends 0 gs) (nat_lt (length gs) 65536) h in
    field_word 2 (λ n rest. glyphs n 0 4 rest) (length gs) (bytes_of gs) (ltb-true (length gs) 65536 a.1) ∙ glyphs_back gs 0 4 a.0

pub length-format1 : (gs : List ℕ) → length (format1 gs) ≡ 4 + 2 * length gs
length-format1 gs = omega (arith, length-bytes_of gs)

pub format1_means : (gs : List ℕ) → listed gs ≡ true → Means gs (Some (format1 gs))
format1_means gs h = (omega (arith, length-format1 gs), format1_back gs h)

pub runs_same : (s e g : ℕ) (gs : List ℕ) → g ≡ e + 1 → runs_from s e (g ∷ gs) ≡ runs_from s g gs
runs_same s e g gs h = cond-true (g == e + 1) (runs_from s g gs) ((s, e) ∷ runs_from g g gs) (eq-eqb g (e + 1) h)

pub runs_new : (s e g : ℕ) (gs : List ℕ) → (g ≢ e + 1) → runs_from s e (g ∷ gs) ≡ (s, e) ∷ runs_from g g gs
runs_new s e g gs h = cond-false (g == e + 1) (runs_from s g gs) ((s, e) ∷ runs_from g g gs) (ne_eqb g (e + 1) h)

pub length-range_words : (rs : List (ℕ × ℕ)) (seen : ℕ) → length (range_words seen rs) ≡ 3 * length rs
length-range_words [] seen = refl
length-range_words (r ∷ rs) seen = omega (arith, length-range_words rs (seen + (r.1 + 1 - r.0)))

pub length-format2 : (gs : List ℕ) → length (format2 gs) ≡ 4 + 6 * length (runs gs)
length-format2 gs = omega (arith, length-bytes_of (range_words 0 (runs gs)), length-range_words (runs gs) 0)

-- one range, read from its three words
range_word : (n low seen p s e : ℕ) (rest : List ℕ) → low ≤ s → s ≤ e → e < 65536 → seen < 65536 → ranges (suc n) low seen p (word_bytes s ++ (word_bytes e ++ (word_bytes seen ++ rest))) ≡ also (run s (e + 1 - s)) (ranges n (e + 1) (seen + (e + 1 - s)) (p + 6) rest)
range_word n low seen p s e rest a b c d =
    let third = word_bytes seen ++ rest in
    let second = word_bytes e ++ third in
    field_word p (start_then n low seen p) s second (omega arith) ∙ allowed_so low s p (field (p + 2) (end_then n seen p s) second) a
    ∙ field_word (p + 2) (end_then n seen p s) e third c ∙ allowed_so s e (p + 2) (field (p + 4) (index_then n seen p s e) third) b
    ∙ field_word (p + 4) (index_then n seen p s e) seen rest d
    ∙ ap (λ t. allowed t (p + 4) (also (run s (e + 1 - s)) (ranges n (e + 1) (seen + (e + 1 - s)) (p + 6) rest))) (eq-eqb seen seen refl)

run_push : (n s : ℕ) → run s (suc n) ≡ run s n ++ (s + n) ∷ []
run_push zero s = let z : s ≡ s + 0 = omega arith in ap (λ x. x ∷ []) z
run_push (suc n) s = let z : s + 1 + n ≡ s + suc n = omega arith in ap (λ l. s ∷ l) (run_push n (s + 1) ∙ ap (λ x. run (s + 1) n ++ x ∷ []) z)

pub run_one : (g k : ℕ) → k ≡ 1 → run g k ≡ g ∷ []
run_one g k e = ap (run g) e

pub grown : (s e g : ℕ) (gs : List ℕ) → s ≤ e → g ≡ e + 1 → run s (g + 1 - s) ++ gs ≡ run s (e + 1 - s) ++ (g ∷ gs)
grown s e g gs a h =
    let z : g + 1 - s ≡ suc (e + 1 - s) = omega arith in
    let y : s + (e + 1 - s) ≡ g = omega arith in
    ap (λ k. run s k ++ gs) z ∙ ap (λ l. l ++ gs) (run_push (e + 1 - s) s ∙ ap (λ x. run s (e + 1 - s) ++ x ∷ []) y) ∙ append_assoc (run s (e + 1 - s)) (g ∷ []) gs

pub ranges_back : (gs : List ℕ) (s e low seen p : ℕ) → low ≤ s → s ≤ e → e < 65536 → seen ≤ low → ascends (e + 1) gs ≡ true → ranges (length (runs_from s e gs)) low seen p (bytes_of (range_words seen (runs_from s e gs))) ≡ Ok (run s (e + 1 - s) ++ gs)
ranges_back [] s e low seen p a b c d h = range_word 0 low seen p s e [] a b c (omega arith)
ranges_back (g ∷ gs) s e low seen p a b c d h =
    let one = and_parts (nat_le (e + 1) g) (nat_lt g 65536 && ascends (g + 1) gs) h in
    let two = and_parts (nat_lt g 65536) (ascends (g + 1) gs) one.1 in
    let above = leb-true (e + 1) g one.0 in
    let small = ltb-true g 65536 two.0 in
    ⊎_elim
    (λ x.
    ap (λ rs. ranges (length rs) low seen p (bytes_of (range_words seen rs))) (runs_same s e g gs x)
    ∙ ranges_back gs s g low seen p a (omega arith) small d two.1 ∙ ap Ok (grown s e g gs b x))
    (λ x.
    let k : g + 1 - g ≡ 1 = omega arith in
    ap (λ rs. ranges (length rs) low seen p (bytes_of (range_words seen rs))) (runs_new s e g gs x)
    ∙ range_word (length (runs_from g g gs)) low seen p s e (bytes_of (range_words (seen + (e + 1 - s)) (runs_from g g gs))) a b c (omega arith)
    ∙ ap (also (run s (e + 1 - s))) (ranges_back gs g g (e + 1) (seen + (e + 1 - s)) (p + 6) above (omega arith) small (omega arith) two.1 ∙ ap (λ l. Ok (l ++ gs)) (run_one g (g + 1 - g) k)))
    (cases_eq g (e + 1))

runs_back : (gs : List ℕ) → ascends 0 gs ≡ true → ranges (length (runs gs)) 0 0 4 (bytes_of (range_words 0 (runs gs))) ≡ Ok gs
runs_back [] h = refl
runs_back (g ∷ gs) h =
    let one = and_parts (nat_le 0 g) (nat_lt g 65536 && ascends (g + 1) gs) h in
    let two = and_parts (nat_lt g 65536) (ascends (g + 1) gs) one.1 in
    let k : g + 1 - g ≡ 1 = omega arith in
    ranges_back gs g g 0 0 4 (omega arith) (omega arith) (ltb-true g 65536 two.0) (omega arith) two.1 ∙ ap (λ l. Ok (l ++ gs)) (run_one g (g + 1 - g) k)

pub format2_back : (gs : List ℕ) → listed gs ≡ true → length (runs gs) < 65536 → read_coverage (format2 gs) ≡ Ok gs
format2_back gs h few =
    let a = and_parts (ascends 0 gs) (nat_lt (length gs) 65536) h in
    field_word 2 (λ n rest. ranges n 0 0 4 rest) (length (runs gs)) (bytes_of (range_words 0 (runs gs))) few ∙ runs_back gs a.0

pub table_first : (gs : List ℕ) → length gs ≤ 3 * length (runs gs) → table_of gs ≡ format1 gs
table_first gs h = cond-true (nat_le (length gs) (3 * length (runs gs))) (format1 gs) (format2 gs) (le-leb (length gs) (3 * length (runs gs)) h)

pub table_second : (gs : List ℕ) → 3 * length (runs gs) < length gs → table_of gs ≡ format2 gs
table_second gs h = cond-false (nat_le (length gs) (3 * length (runs gs))) (format1 gs) (format2 gs) (lt-leb (length gs) (3 * length (runs gs)) h)

pub table_means : (gs : List ℕ) → listed gs ≡ true → Means gs (Some (table_of gs))
table_means gs h =
    let a = and_parts (ascends 0 gs) (nat_lt (length gs) 65536) h in
    let few = ltb-true (length gs) 65536 a.1 in
    ⊎_elim
    (λ x. subst (λ b. Means gs (Some b)) (sym (table_second gs x)) (omega (arith, length-format2 gs), format2_back gs h (omega arith)))
    (λ x. subst (λ b. Means gs (Some b)) (sym (table_first gs x)) (format1_means gs h))
    (cases_lt (3 * length (runs gs)) (length gs))

pub meaning_by-some : (bytes : List ℕ → List ℕ) (gs : List ℕ) → listed gs ≡ true → meaning_by bytes gs ≡ Some (bytes gs)
meaning_by-some bytes gs h = cond-true (listed gs) (Some (bytes gs)) None h

pub meaning_by-none : (bytes : List ℕ → List ℕ) (gs : List ℕ) → listed gs ≡ false → meaning_by bytes gs ≡ None
meaning_by-none bytes gs h = cond-false (listed gs) (Some (bytes gs)) None h

-- the law of a writer, by its tables
pub lawful_by : (bytes : List ℕ → List ℕ) → ((gs : List ℕ) → listed gs ≡ true → Means gs (Some (bytes gs))) → Lawful (meaning_by bytes)
lawful_by bytes means =
    record {
      taken = λ gs h. subst (Means gs) (sym (meaning_by-some bytes gs h)) (means gs h);
      declined = meaning_by-none bytes;
    }

-- what the two laws say of each writer's meaning
pub meaning1-some : (gs : List ℕ) → listed gs ≡ true → meaning1 gs ≡ Some (format1 gs)
meaning1-some = meaning_by-some format1

pub meaning1-none : (gs : List ℕ) → listed gs ≡ false → meaning1 gs ≡ None
meaning1-none = meaning_by-none format1

pub meaning1-means : (gs : List ℕ) → listed gs ≡ true → Means gs (meaning1 gs)
meaning1-means = (lawful_by format1 format1_means).taken

pub table_meaning-some : (gs : List ℕ) → listed gs ≡ true → table_meaning gs ≡ Some (table_of gs)
table_meaning-some = meaning_by-some table_of

pub table_meaning-none : (gs : List ℕ) → listed gs ≡ false → table_meaning gs ≡ None
table_meaning-none = meaning_by-none table_of

pub table_meaning-means : (gs : List ℕ) → listed gs ≡ true → Means gs (table_meaning gs)
table_meaning-means = (lawful_by table_of table_means).taken
