-- The runs of glyphs as the slice's parts: each part of `chunk_by` is a run.
use Rattle.std.specs.Prelude.{◌≡◌, ℕ, zero, suc, ◌+◌, ◌-◌, ◌<◌, ◌≤◌, Bool, List, [], ◌∷◌, ◌++◌, length, take, drop, Some, refl, ◌==◌, slice_index}
use Rattle.std.proofs.Common.{sym, ap, subst, ◌∙◌, arith, eqb-true, length-append, length-drop}
use Rattle.std.proofs.lemmas.Bool.{eqb-false}
use Rattle.std.proofs.lemmas.List.{get_or_append_left, drop_at, nil_from_length}
use Rattle.std.specs.List.{IsChunkByPrefix}
use Rattle.std.specs.Fn.{ComputesOnPairs}
use Rattle.std.specs.Slice.Iter.{chunk_by_rest, chunk_by_callee, chunk_by_steps}
use Rattle.std.specs.declared.slice.ChunkBy.{ChunkBy}
use denote.Ref.{Bor}
use denote.Param.Members.{Mut}
use Rattle.coverage_writers.specs.Formats.{bytes_of, runs_from, runs, range_words}
use Rattle.coverage_writers.proofs.Runs.{Along, along_more, along_end}
use Rattle.coverage_writers.specs.WriterLaws.{runs_new, runs_same}

-- the glyph b comes right after the glyph a
abbrev pub follow : ℕ → ℕ → Bool
follow a b = b == a + 1

-- a run goes on for n glyphs, and no further
runs_chunk : (gs : List ℕ) (s e n : ℕ) → n ≤ length gs → ((k : ℕ) → k < n → slice_index gs k ≡ e + 1 + k) → (n < length gs → slice_index gs n ≡ e + 1 + n → ⊥) → runs_from s e gs ≡ (s, e + n) ∷ runs (drop n gs)
runs_chunk [] s e zero h on off = let z : e ≡ e + 0 = omega arith in ap (λ x. (s, x) ∷ []) z
runs_chunk [] s e (suc n) h on off = absurd (omega arith)
runs_chunk (g ∷ gs) s e zero h on off =
    let z : e ≡ e + 0 = omega arith in
    runs_new s e g gs (λ x. off (omega arith) (omega arith)) ∙ ap (λ x. (s, x) ∷ runs (g ∷ gs)) z
runs_chunk (g ∷ gs) s e (suc n) h on off =
    let one = on 0 (omega arith) in
    let next : g ≡ e + 1 = omega arith in
    let z : g + n ≡ e + suc n = omega arith in
    runs_same s e g gs next
    ∙ runs_chunk gs s g n (omega arith) (λ k l. omega (arith, on (suc k) (omega arith))) (λ l x. off (omega arith) (omega arith))
    ∙ ap (λ x. (s, x) ∷ runs (drop n gs)) z

module _ (xs : List ℕ) (n : ℕ) (some : 0 < n) (within : n ≤ length xs) (p : IsChunkByPrefix follow xs n) where
  up : (k : ℕ) → k < n → slice_index xs k ≡ slice_index xs 0 + k
  up zero h = omega arith
  up (suc k) h =
      let one : k + 1 ≡ suc k = omega arith in
      let e = eqb-true (slice_index xs (k + 1)) (slice_index xs k + 1) (p.0 k 0 (omega arith)) in
      omega (arith, ap (slice_index xs) one, up k (omega arith))

  up_to : slice_index xs (n - 1) ≡ slice_index xs 0 + (n - 1)
  up_to = up (n - 1) (omega arith)

  stop : n < length xs → slice_index xs n ≡ slice_index xs 0 + n → ⊥
  stop h e = eqb-false (slice_index xs n) (slice_index xs (n - 1) + 1) (p.1 h 0) (omega (arith, up_to))

-- the front that `chunk_by` cuts off is the first run
pub prefix_run : (xs : List ℕ) (n : ℕ) → 0 < n → n ≤ length xs → IsChunkByPrefix follow xs n → runs xs ≡ (slice_index xs 0, slice_index xs (n - 1)) ∷ runs (drop n xs)
prefix_run xs zero some within p = absurd (omega arith)
prefix_run [] (suc n) some within p = absurd (omega arith)
prefix_run (g ∷ gs) (suc n) some within p =
    let end : g + n ≡ slice_index (g ∷ gs) (suc n - 1) = omega (arith, up_to (g ∷ gs) (suc n) some within p) in
    runs_chunk gs g g n (omega arith) (λ k h. omega (arith, up (g ∷ gs) (suc n) some within p (suc k) (omega arith)))
    (λ h e. stop (g ∷ gs) (suc n) some within p (omega arith) (omega arith))
    ∙ ap (λ x. (g, x) ∷ runs (drop n gs)) end

-- a part of `chunk_by`, and what is left behind it
pub record Part (xs part left : List ℕ) : Type 0 where
  pub some : 0 < length part
  pub run : runs xs ≡ (slice_index part 0, slice_index part (length part - 1)) ∷ runs left
  pub last : slice_index part (length part - 1) + 1 ≡ slice_index part 0 + length part
  pub count : length xs ≡ length part + length left

part_is : (xs part left : List ℕ) → xs ≡ part ++ left → 0 < length part → IsChunkByPrefix follow xs (length part) → Part xs part left
part_is xs part left cut some p =
    let long = ap length cut ∙ length-append part left in
    let within : length part ≤ length xs = omega arith in
    let at : (k : ℕ) → k < length part → slice_index xs k ≡ slice_index part k = λ k h. ap (λ l. slice_index l k) cut ∙ get_or_append_left part left 0 k h in
    let first = at 0 some in
    let last = at (length part - 1) (omega arith) in
    let rest = ap (drop (length part)) cut ∙ drop_at part left (length part) refl in
    record {
      some = some;
      run = prefix_run xs (length part) some within p ∙ (λ i. (first i, last i) ∷ runs (rest i));
      last = omega (arith, up_to xs (length part) some within p);
      count = long;
    }

-- along a plan: room for the next range, the buffer with that range, and the end
module _ (plan old cur xs : List ℕ) (i from : ℕ) (a : Along plan old cur (bytes_of (range_words i (runs xs))) from) where
  module _ (part left : List ℕ) (p : Part xs part left) where
    here : Along plan old cur (bytes_of (range_words i ((slice_index part 0, slice_index part (length part - 1)) ∷ runs left))) from
    here = subst (λ rs. Along plan old cur (bytes_of (range_words i rs)) from) p.run a

    pub part_room : from + 6 ≤ length plan
    part_room = omega (arith, ap length here.rest, length-drop from plan)

    pub part_written : (next : List ℕ) (at to j s e : ℕ) → at ≡ from → to ≡ at + 6 → s ≡ slice_index part 0 → e ≡ slice_index part (length part - 1) → j ≡ i + (slice_index part (length part - 1) - slice_index part 0 + 1) → next ≡ take at cur ++ (bytes_of (s ∷ e ∷ i ∷ []) ++ drop (at + 6) cur) → Along plan old next (bytes_of (range_words j (runs left))) to
    part_written next at to j s e begins six starts ends count is =
        let b = subst (λ (m : ℕ × (ℕ × ℕ)). Along plan old cur (bytes_of (range_words i ((m.0, m.1.0) ∷ runs left))) m.1.1) (λ x. (sym starts x, (sym ends x, sym begins x))) here in
        let more = along_more plan old cur at (bytes_of (s ∷ e ∷ i ∷ [])) (bytes_of (range_words (i + (e + 1 - s)) (runs left))) next 6 refl b is in
        let k : i + (e + 1 - s) ≡ j = omega (arith, p.last, p.some, starts, ends) in
        subst (λ (n : ℕ × ℕ). Along plan old next (bytes_of (range_words n.0 (runs left))) n.1) (λ m. (k m, sym six m)) more

  pub parts_done : (n : ℕ) → length xs ≡ 0 → length plan ≡ n → cur ≡ plan ++ drop n old
  parts_done n none size = along_end plan old cur from n size (subst (λ l. Along plan old cur (bytes_of (range_words i (runs l))) from) (nil_from_length xs none) a)

module _ {F : Type 0} (f : Mut F (Bor ℕ × (Bor ℕ × Unit {0})) Bool) where
  -- one call of `next`
  pub part_cut : (s t : ChunkBy ℕ F) (x : Bor (List ℕ)) → chunk_by_steps f s (Some x) t → ComputesOnPairs f follow (chunk_by_callee s) → Part (chunk_by_rest s) x.now (chunk_by_rest t)
  part_cut s t x step by = part_is (chunk_by_rest s) x.now (chunk_by_rest t) step.0 step.1 (step.2 follow by).1
