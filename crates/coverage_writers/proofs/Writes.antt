-- Words in a buffer, and what is read back of them.
use Rattle.std.specs.Prelude.{◌≡◌, ℕ, zero, suc, ◌+◌, ◌-◌, ◌*◌, ◌<◌, ◌≤◌, true, false, ◌&&◌, Bool, List, [], ◌∷◌, ◌++◌, length, take, drop, Some, None, Ok, Option, nat_le, nat_lt, slice_index, refl}
use Rattle.std.specs.List.{IsAllAdjacentAnswer}
use Rattle.std.proofs.Common.{sym, ap, subst, ◌∙◌, append_assoc, arith, ⊎_elim}
use Rattle.std.proofs.lemmas.List.{drop-drop, drop_at, take_at, flat_map_more}
use Rattle.std.proofs.lemmas.Bool.{cases_Bool, le-leb, lt-leb, lt-ltb, ltb-true, ltb-false, leb-true, cond-true}
use Rattle.layout.specs.Format.{read_coverage}
use Rattle.coverage_writers.specs.Writing.{ascends, listed, Means, Lawful, length_of, accepts, written}
use Rattle.coverage_writers.specs.Formats.{word_bytes, bytes_of}
use Rattle.layout.specs.Lookup.{given, covered}
use Rattle.coverage_writers.specs.WriterLaws.{length-bytes_of}

-- one word more at the end of those that stand in the buffer
pub put_next : (ws old cur : List ℕ) (at w : ℕ) → at ≡ 2 * length ws → cur ≡ bytes_of ws ++ drop at old → take at cur ++ (word_bytes w ++ drop (at + 2) cur) ≡ bytes_of (ws ++ w ∷ []) ++ drop (at + 2) old
put_next ws old cur at w here is =
    let long : length (bytes_of ws) ≡ at = length-bytes_of ws ∙ sym here in
    let front = ap (take at) is ∙ take_at (bytes_of ws) (drop at old) at long in
    let back = sym (drop-drop 2 at cur) ∙ ap (drop 2) (ap (drop at) is ∙ drop_at (bytes_of ws) (drop at old) at long) ∙ drop-drop 2 at old in
    (λ i. front i ++ (word_bytes w ++ back i)) ∙ sym (append_assoc (bytes_of ws) (word_bytes w) (drop (at + 2) old)) ∙ ap (λ l. l ++ drop (at + 2) old) (flat_map_more word_bytes [] ws w)

pub ascends_low : (low g : ℕ) (gs : List ℕ) → g < low → ascends low (g ∷ gs) ≡ false
ascends_low low g gs h = ap (λ t. t && (nat_lt g 65536 && ascends (g + 1) gs)) (lt-leb low g h)

pub ascends_next : (low g : ℕ) (gs : List ℕ) → low ≤ g → g < 65536 → ascends low (g ∷ gs) ≡ ascends (g + 1) gs
ascends_next low g gs h k = ap (λ t. t && (nat_lt g 65536 && ascends (g + 1) gs)) (le-leb low g h) ∙ ap (λ t. t && ascends (g + 1) gs) (lt-ltb g 65536 k)

and_last : (a b : Bool) → a && (b && false) ≡ false
and_last true true = refl
and_last true false = refl
and_last false b = refl

ascends_later : (low g : ℕ) (gs : List ℕ) → ascends (g + 1) gs ≡ false → ascends low (g ∷ gs) ≡ false
ascends_later low g gs h = ap (λ t. nat_le low g && (nat_lt g 65536 && t)) h ∙ and_last (nat_le low g) (nat_lt g 65536)

after : (g : ℕ) (gs : List ℕ) (k : ℕ) → slice_index (g ∷ gs) (suc k + 1) ≡ slice_index gs (k + 1)
after g gs k = let z : suc k + 1 ≡ suc (k + 1) = omega arith in ap (slice_index (g ∷ gs)) z

-- each glyph is below the next
rises : (gs : List ℕ) (low : ℕ) → ((k : ℕ) → slice_index gs k < 65536) → (0 < length gs → low ≤ slice_index gs 0) → ((k : ℕ) → k + 1 < length gs → slice_index gs k < slice_index gs (k + 1)) → ascends low gs ≡ true
rises [] low small first next = refl
rises (g ∷ gs) low small first next =
    ascends_next low g gs (first (omega arith)) (small 0) ∙ rises gs (g + 1) (λ k. small (suc k)) (λ h. let r = next 0 (omega arith) in omega arith) (λ k h. omega (arith, after g gs k, next (suc k) (omega arith)))

-- some glyph is not below the next
falls : (gs : List ℕ) (low k : ℕ) → k + 1 < length gs → slice_index gs (k + 1) ≤ slice_index gs k → ascends low gs ≡ false
falls [] low k h e = absurd (omega arith)
falls (g ∷ []) low k h e = absurd (omega arith)
falls (g ∷ f ∷ gs) low zero h e = ascends_later low g (f ∷ gs) (ascends_low (g + 1) f gs (omega arith))
falls (g ∷ f ∷ gs) low (suc k) h e = ascends_later low g (f ∷ gs) (falls (f ∷ gs) (g + 1) k (omega arith) (omega (arith, after g (f ∷ gs) k)))

-- what `is_sorted_by` answers of glyphs
pub sorted_ascends : (gs : List ℕ) (r : Bool) → ((k : ℕ) → slice_index gs k < 65536) → IsAllAdjacentAnswer (λ x y b. b ≡ nat_lt x y) gs r → ascends 0 gs ≡ r
sorted_ascends gs true small h = rises gs 0 small (λ _. omega arith) (λ k l. ltb-true (slice_index gs k) (slice_index gs (k + 1)) (sym (h k 0 l)))
sorted_ascends gs false small h = falls gs 0 h.0 h.1 (ltb-false (slice_index gs h.0) (slice_index gs (h.0 + 1)) (sym (h.2 0)))

pub written_so : (bs old : List ℕ) → length bs ≤ length old → written (Some bs) old ≡ bs ++ drop (length bs) old
written_so bs old h = cond-true (nat_le (length bs) (length old)) (bs ++ drop (length bs) old) old (le-leb (length bs) (length old) h)

-- what a lawful writer writes of a list
pub lawful_means : (meaning : List ℕ → Option (List ℕ)) → Lawful meaning → (gs bs : List ℕ) → meaning gs ≡ Some bs → Means gs (Some bs)
lawful_means meaning l gs bs e =
    ⊎_elim (λ h. subst (Means gs) e (l.taken gs h)) (λ h. let n = l.declined gs h in let z : ◌≡◌ {A = ℕ} 0 1 = cc in absurd (omega arith)) (cases_Bool (listed gs))

-- what an accepted write leaves is read back, by the meaning's length and by the length that was told
pub write_back : (m : Option (List ℕ)) (gs old new : List ℕ) → ((bs : List ℕ) → m ≡ Some bs → Means gs (Some bs)) → true ≡ accepts m old → new ≡ written m old → read_coverage (take (length_of m) new) ≡ Ok gs
write_back None gs old new means ok is = let z : ◌≡◌ {A = ℕ} 0 1 = cc in absurd (omega arith)
write_back (Some bs) gs old new means ok is =
    ap read_coverage (ap (take (length bs)) (is ∙ written_so bs old (leb-true (length bs) (length old) (sym ok))) ∙ take_at bs (drop (length bs) old) (length bs) refl) ∙ (means bs refl).1

pub slice_back : (m : Option (List ℕ)) (gs new : List ℕ) (n : ℕ) → n ≡ length_of m → read_coverage (take (length_of m) new) ≡ Ok gs → read_coverage (take (n - 0) new) ≡ Ok gs
slice_back m gs new n told back = let all : n - 0 ≡ length_of m = omega arith in ap (λ k. read_coverage (take k new)) all ∙ back

pub count_back : (m : Option (List ℕ)) (gs new bytes : List ℕ) (n count : ℕ) → n ≡ length_of m → read_coverage (take (length_of m) new) ≡ Ok gs → bytes ≡ take (n - 0) new → count ≡ length (covered bytes) → count ≡ length gs
count_back m gs new bytes n count told back same is = is ∙ ap (λ bs. length (covered bs)) same ∙ ap (λ r. length (given r)) (slice_back m gs new n told back)
