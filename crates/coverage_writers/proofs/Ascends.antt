-- What is read ascends strictly.
use Rattle.std.proofs.Common.{◌≡◌, ℕ, zero, suc, ◌+◌, ◌-◌, ◌*◌, ◌<◌, ◌≤◌, Bool, true, false, cond, eqb, List, [], ◌∷◌, ◌++◌, Ok, sym, refl, ap, ◌∙◌, arith}
use Rattle.layout.specs.Format.{run}
use Rattle.layout.specs.Lookup.{given, covered, Sound}
use Rattle.layout.specs.Records.{word_at, range_count}
use Rattle.layout.proofs.Rows.{Rows}
use Rattle.layout.proofs.Tables.{table}
use Rattle.coverage_writers.specs.Writing.{ascends}
use Rattle.coverage_writers.specs.Laws.{ReadsAscending}
use Rattle.coverage_writers.proofs.Writes.{ascends_next}
use Rattle.coverage_writers.proofs.Runs.{ascends_parts}

ascends_weaker : (gs : List ℕ) (m low : ℕ) → low ≤ m → ascends m gs ≡ true → ascends low gs ≡ true
ascends_weaker [] m low a h = refl
ascends_weaker (g ∷ gs) m low a h = let p = ascends_parts m g gs h in ascends_next low g gs (omega arith) p.1 ∙ p.2

run_ascends : (k s low : ℕ) (rest : List ℕ) → low ≤ s → s + k ≤ 65536 → ascends (s + k) rest ≡ true → ascends low (run s k ++ rest) ≡ true
run_ascends zero s low rest a b h = ascends_weaker rest (s + 0) low (omega arith) h
run_ascends (suc k) s low rest a b h =
    let z : s + 1 + k ≡ s + suc k = omega arith in
    ascends_next low s (run (s + 1) k ++ rest) a (omega arith) ∙ run_ascends k (s + 1) (s + 1) rest (omega arith) (omega arith) (ap (λ m. ascends m rest) z ∙ h)

rows_ascend : (n : ℕ) (s e i : ℕ → ℕ) (low seen : ℕ) (gs : List ℕ) → ((k : ℕ) → e k < 65536) → Rows n s e i low seen gs → ascends low gs ≡ true
rows_ascend zero s e i low seen gs small r = ap (ascends low) r
rows_ascend (suc n) s e i low seen gs small r =
    let z : s 0 + (e 0 + 1 - s 0) ≡ e 0 + 1 = omega arith in
    let later = rows_ascend n (λ k. s (suc k)) (λ k. e (suc k)) (λ k. i (suc k)) (e 0 + 1) (seen + (e 0 + 1 - s 0)) r.3.0 (λ k. small (suc k)) r.3.2 in
    ap (ascends low) r.3.1 ∙ run_ascends (e 0 + 1 - s 0) (s 0) low r.3.0 r.0 (omega (arith, small 0)) (ap (λ m. ascends m r.3.0) z ∙ later)

either_small : (t : Bool) (a b : ℕ) → a < 65536 → b < 65536 → cond t a b < 65536
either_small true a b p q = p
either_small false a b p q = q

pub reads_ascending : ReadsAscending
reads_ascending bs gs small e =
    let sound : Sound bs = e ∙ ap Ok (sym (ap given e)) in
    let word_small : (p : ℕ) → word_at bs p < 65536 = λ p. omega (arith, small p, small (p + 1)) in
    sym (ap (ascends 0) (ap given e)) ∙ rows_ascend (range_count bs) _ _ _ 0 0 (covered bs) (λ k. either_small (eqb (word_at bs 0) 1) (word_at bs (4 + 2 * k)) (word_at bs (6 + 6 * k)) (word_small _) (word_small _)) (table bs sound).rows
