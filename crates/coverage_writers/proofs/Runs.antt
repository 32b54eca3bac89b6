-- Runs of consecutive glyphs: how many, what is read back of them, and a buffer that is filled along a plan.
use Rattle.std.specs.Prelude.{◌≡◌, ℕ, ◌+◌, ◌-◌, ◌<◌, ◌≤◌, true, ◌&&◌, List, [], ◌∷◌, ◌++◌, length, take, drop, nat_le, nat_lt, refl}
use Rattle.std.proofs.Common.{sym, ap, subst, ◌∙◌, append_assoc, arith, ⊎_elim, length-append, length-drop, take-append-drop}
use Rattle.std.proofs.lemmas.List.{drop-drop, drop_at, take_at, length-take-le, take_all}
use Rattle.std.proofs.lemmas.Bool.{ltb-true, leb-true, and_parts, cases_eq}
use Rattle.layout.specs.Format.{run}
use Rattle.coverage_writers.specs.Writing.{ascends, listed}
use Rattle.coverage_writers.specs.Formats.{word_bytes, bytes_of, runs_from, runs, range_words, format2}
use Rattle.coverage_writers.specs.Laws.{Apart, spread, MaximalRuns}
use Rattle.coverage_writers.specs.WriterLaws.{grown, run_one, runs_new, runs_same}

-- one block of bytes written behind another
pub block_more : (o cur B C : List ℕ) (at n m : ℕ) → n ≡ at + length B → n ≤ length o → cur ≡ take at o ++ (B ++ drop n o) → take n cur ++ (C ++ drop (n + m) cur) ≡ take at o ++ ((B ++ C) ++ drop (n + m) o)
block_more o cur B C at n m here fits is =
    let long : length (take at o ++ B) ≡ n = length-append (take at o) B ∙ ap (λ k. k + length B) (length-take-le at o (omega arith)) ∙ sym here in
    let whole = is ∙ sym (append_assoc (take at o) B (drop n o)) in
    let front = ap (take n) whole ∙ take_at (take at o ++ B) (drop n o) n long in
    let back = sym (drop-drop m n cur) ∙ ap (drop m) (ap (drop n) whole ∙ drop_at (take at o ++ B) (drop n o) n long) ∙ drop-drop m n o in
    (λ i. front i ++ (C ++ back i)) ∙ append_assoc (take at o) B (C ++ drop (n + m) o) ∙ ap (λ l. take at o ++ l) (sym (append_assoc B C (drop (n + m) o)))

-- the buffer `cur` has the first `at` bytes of the plan, and is otherwise as `old` was; `left` is what is still to be written
pub record Along (plan old cur left : List ℕ) (at : ℕ) : Type 0 where
  pub within : at ≤ length plan
  pub is : cur ≡ take at plan ++ drop at old
  pub rest : drop at plan ≡ left

pub along_start : (plan old : List ℕ) → Along plan old old plan 0
along_start plan old = record { within = omega arith; is = refl; rest = refl }

module _ (plan old cur : List ℕ) (at : ℕ) where
  pub along_more : (B left next : List ℕ) (k : ℕ) → length B ≡ k → Along plan old cur (B ++ left) at → next ≡ take at cur ++ (B ++ drop (at + k) cur) → Along plan old next left (at + k)
  along_more B left next k size a step =
      let long = length-take-le at plan a.within in
      let front = ap (take at) a.is ∙ take_at (take at plan) (drop at old) at long in
      let back = sym (drop-drop k at cur) ∙ ap (drop k) (ap (drop at) a.is ∙ drop_at (take at plan) (drop at old) at long) ∙ drop-drop k at old in
      let whole = sym (take-append-drop at plan) ∙ ap (λ l. take at plan ++ l) a.rest ∙ sym (append_assoc (take at plan) B left) in
      let longer : length (take at plan ++ B) ≡ at + k = length-append (take at plan) B ∙ (λ i. long i + size i) in
      let room = ap length a.rest ∙ length-append B left in
      record {
        within = omega (arith, length-drop at plan);
        is = step ∙ (λ i. front i ++ (B ++ back i)) ∙ sym (append_assoc (take at plan) B (drop (at + k) old)) ∙ ap (λ l. l ++ drop (at + k) old) (sym (ap (take (at + k)) whole ∙ take_at (take at plan ++ B) left (at + k) longer));
        rest = sym (drop-drop k at plan) ∙ ap (drop k) a.rest ∙ drop_at B left k size;
      }

  pub along_past : (left : List ℕ) (n : ℕ) → Along plan old cur left at → at ≤ n → drop n cur ≡ drop n old
  along_past left n a far =
      let split : n ≡ at + (n - at) = omega arith in
      let long = length-take-le at plan a.within in
      ap (λ m. drop m cur) split ∙ sym (drop-drop (n - at) at cur) ∙ ap (drop (n - at)) (ap (drop at) a.is ∙ drop_at (take at plan) (drop at old) at long) ∙ drop-drop (n - at) at old ∙ ap (λ m. drop m old) (sym split)

  pub along_end : (n : ℕ) → length plan ≡ n → Along plan old cur [] at → cur ≡ plan ++ drop n old
  along_end n size a =
      let none = ap length a.rest in
      let all : at ≡ n = omega (arith, length-drop at plan) in
      a.is ∙ (λ i. take (all i) plan ++ drop (all i) old) ∙ ap (λ l. l ++ drop n old) (take_all n plan (omega arith))

-- the two words at the front of format 2
pub header : (gs old a b : List ℕ) (n : ℕ) → n ≡ length (runs gs) → a ≡ take 0 old ++ (word_bytes 2 ++ drop 2 old) → b ≡ take 2 a ++ (word_bytes n ++ drop 4 a) → Along (format2 gs) old b (bytes_of (range_words 0 (runs gs))) 4
header gs old a b n e p q =
    let left = bytes_of (range_words 0 (runs gs)) in
    let first = along_more (format2 gs) old old 0 (word_bytes 2) (word_bytes (length (runs gs)) ++ left) a 2 refl (along_start (format2 gs) old) p in
    along_more (format2 gs) old a 2 (word_bytes n) left b 2 refl (subst (λ m. Along (format2 gs) old a (word_bytes m ++ left) 2) (sym e) first) q

pub ascends_parts : (e g : ℕ) (gs : List ℕ) → ascends e (g ∷ gs) ≡ true → (e ≤ g) × (g < 65536) × (ascends (g + 1) gs ≡ true)
ascends_parts e g gs h =
    let one = and_parts (nat_le e g) (nat_lt g 65536 && ascends (g + 1) gs) h in
    let two = and_parts (nat_lt g 65536) (ascends (g + 1) gs) one.1 in
    (leb-true e g one.0, ltb-true g 65536 two.0, two.1)

pub listed_few : (gs : List ℕ) → listed gs ≡ true → length gs < 65536
listed_few gs h = ltb-true (length gs) 65536 (and_parts (ascends 0 gs) (nat_lt (length gs) 65536) h).1

-- runs behind the run from s to e: they are apart, and cover it and the glyphs behind it
runs_apart : (gs : List ℕ) (s e low : ℕ) → low ≤ s → s ≤ e → ascends (e + 1) gs ≡ true → Apart low (runs_from s e gs) × (spread (runs_from s e gs) ≡ run s (e + 1 - s) ++ gs)
runs_apart [] s e low a b h = ((a, b, tt), refl)
runs_apart (g ∷ gs) s e low a b h =
    let p = ascends_parts (e + 1) g gs h in
    ⊎_elim
    (λ x.
    let r = runs_apart gs s g low a (omega arith) p.2 in
    subst (λ rs. Apart low rs × (spread rs ≡ run s (e + 1 - s) ++ (g ∷ gs))) (sym (runs_same s e g gs x)) (r.0, r.1 ∙ grown s e g gs b x))
    (λ x.
    let r = runs_apart gs g g (e + 2) (omega arith) (omega arith) p.2 in
    let k : g + 1 - g ≡ 1 = omega arith in
    subst (λ rs. Apart low rs × (spread rs ≡ run s (e + 1 - s) ++ (g ∷ gs))) (sym (runs_new s e g gs x))
    ((a, b, r.0), ap (λ l. run s (e + 1 - s) ++ l) (r.1 ∙ ap (λ l. l ++ gs) (run_one g (g + 1 - g) k))))
    (cases_eq g (e + 1))

pub maximal : MaximalRuns
maximal [] h = (tt, refl)
maximal (g ∷ gs) h =
    let p = ascends_parts 0 g gs (and_parts (ascends 0 (g ∷ gs)) (nat_lt (length (g ∷ gs)) 65536) h).0 in
    let r = runs_apart gs g g 0 (omega arith) (omega arith) p.2 in
    let k : g + 1 - g ≡ 1 = omega arith in
    (r.0, r.1 ∙ ap (λ l. l ++ gs) (run_one g (g + 1 - g) k))
