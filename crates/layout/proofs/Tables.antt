-- A table without a fault has rows, and they cover its glyphs.
use Rattle.std.proofs.Common.{◌≡◌, ℕ, zero, suc, ◌+◌, ◌-◌, ◌*◌, ◌/◌, ◌<◌, ◌≤◌, true, false, cond, eqb, ◌⊎◌, List, [], ◌∷◌, ◌++◌, length, get_or, drop, Some, None, Ok, Err, Option, sym, refl, ap, ◌∙◌, subst, inl, inr, ⊎_elim, arith, length-drop}
use Rattle.std.proofs.lemmas.List.{drop-drop}
use Rattle.std.specs.Simd.{first_chunks}
use Rattle.std.proofs.lemmas.Bool.{cases_lt, cases_eq, eq-eqb, ne_eqb}
use Rattle.layout.specs.Format.{Read, also, run, glyphs, ranges}
use Rattle.layout.specs.Lookup.{given, covered, Sound, index_in, glyph_at}
use Rattle.layout.specs.Records.{fault_of, word_at, front, RangeAt, range_count, start_of, end_of, index_of, last_index}
use Rattle.layout.proofs.Steps.{glyph_short, glyph_low, glyph_next, glyph_after, reads_glyphs, reads_ranges, reads_none, reads_empty, reads_short, start_short, start_low, end_short, end_low, index_short, index_other, range_after, range_next}
use Rattle.layout.specs.Searches.{RangeIs, HoldsGlyph, HoldsIndex, Tabled}
use Rattle.layout.specs.declared.coverage.Records.TheVariants.{Glyphs, Ranges}
use denote.Ref.{Bor}
use Rattle.std.specs.Prelude.{slice_index_or, MatchOption}
use Rattle.layout.specs.declared.reader.RangeRecord.{RangeRecord}
use Rattle.layout.specs.Walks.{Stands}
use Rattle.layout.proofs.Chunks.{word_drop, word_chunk}
use Rattle.layout.proofs.Rows.{Rows, rows_as, rows_at, rows_apart, rows_first, rows_next, rows_small, rows_many, rows_found, rows_absent, rows_glyph, rows_beyond, rows_count}

clash : {X : Type 0} (o : Option ℕ) (p : ℕ) → o ≡ None → o ≡ Some p → X
clash o p a b = let z : ◌≡◌ {A = ℕ} 0 1 = cc in absurd (omega arith)

given_also : (gs : List ℕ) (r : Read) → fault_of r ≡ None → given (also gs r) ≡ gs ++ given r
given_also gs (Ok hs) h = refl
given_also gs (Err p) h = clash (Some p) p h refl

run_one : (g k : ℕ) → k ≡ 1 → run g k ≡ g ∷ []
run_one g k e = ap (run g) e

-- the rows of format 1
glyph_rows : (n low seen p : ℕ) (bs : List ℕ) → fault_of (glyphs n low p bs) ≡ None → (length bs ≡ 2 * n) × Rows n (λ k. word_at bs (2 * k)) (λ k. word_at bs (2 * k)) (λ k. seen + k) low seen (given (glyphs n low p bs))
glyph_rows zero low seen p [] h = (refl, refl)
glyph_rows zero low seen p (b ∷ bs) h = clash (Some p) p h refl
glyph_rows (suc n) low seen p bs h =
    ⊎_elim (λ s. clash _ p h (glyph_short (suc n) n low p bs refl s))
    (λ s. ⊎_elim (λ l. clash _ p h (glyph_low (suc n) n low p bs refl s l))
    (λ l.
    let left = sym (glyph_next (suc n) n low p bs refl s l) ∙ h in
    let more = seen + (front bs + 1 - front bs) in
    let ih = glyph_rows n (front bs + 1) more (p + 2) (drop 2 bs) left in
    let shift : (k : ℕ) → word_at (drop 2 bs) (2 * k) ≡ word_at bs (2 * suc k) = λ k. word_drop 2 bs (2 * k) (2 * suc k) (omega arith) in
    let count : (k : ℕ) → more + k ≡ seen + suc k = λ k. omega arith in
    let rest = given (glyphs n (front bs + 1) (p + 2) (drop 2 bs)) in
    let one : front bs + 1 - front bs ≡ 1 = omega arith in (
      omega (arith, length-drop 2 bs),
      (
        l,
        omega arith,
        omega arith,
        (
          rest,
          ap given (glyph_after (suc n) n low p bs refl s l) ∙ given_also (front bs ∷ []) _ left ∙ ap (λ xs. xs ++ rest) (sym (run_one (front bs) (front bs + 1 - front bs) one)),
          rows_as n _ _ _ _ _ _ _ _ _ _ shift shift count refl ih.1,
        ),
      ),
    ))
    (cases_lt (front bs) low))
    (cases_lt (length bs) 2)

-- the first of the ranges without a fault
range_is : (n low seen p : ℕ) (bs : List ℕ) → fault_of (ranges (suc n) low seen p bs) ≡ None → RangeAt bs low seen (front bs) (front (drop 2 bs))
range_is n low seen p bs h =
    ⊎_elim (λ s. clash _ _ h (start_short n low seen p bs s))
    (λ s. ⊎_elim (λ l. clash _ _ h (start_low n low seen p bs s l))
    (λ l. ⊎_elim (λ k. clash _ _ h (end_short n low seen p bs s l k))
    (λ k. ⊎_elim (λ m. clash _ _ h (end_low n low seen p bs s l k m))
    (λ m. ⊎_elim (λ o. clash _ _ h (index_short n low seen p bs s l k m o))
    (λ o. ⊎_elim
    (λ x. record { whole = omega (arith, length-drop 4 bs); start = refl; above = l; end = refl; ordered = m; index = sym x })
    (λ x. clash _ _ h (index_other n low seen p bs s l k m o x))
    (cases_eq (front (drop 4 bs)) seen))
    (cases_lt (length (drop 4 bs)) 2))
    (cases_lt (front (drop 2 bs)) (front bs)))
    (cases_lt (length (drop 2 bs)) 2))
    (cases_lt (front bs) low))
    (cases_lt (length bs) 2)

-- the rows of format 2
range_rows : (n low seen p : ℕ) (bs : List ℕ) → fault_of (ranges n low seen p bs) ≡ None → (length bs ≡ 6 * n) × Rows n (λ k. word_at bs (6 * k)) (λ k. word_at bs (2 + 6 * k)) (λ k. word_at bs (4 + 6 * k)) low seen (given (ranges n low seen p bs))
range_rows zero low seen p [] h = (refl, refl)
range_rows zero low seen p (b ∷ bs) h = clash (Some p) p h refl
range_rows (suc n) low seen p bs h =
    let r = range_is n low seen p bs h in
    let left = sym (range_next (suc n) n low seen p bs _ _ refl r) ∙ h in
    let k : 2 ≤ length (drop 2 bs) = simp length-drop (omega arith) in
    let o : 2 ≤ length (drop 4 bs) = simp length-drop (omega arith) in
    let s = word_at bs 0 in
    let e = word_at bs 2 in
    let ends : front (drop 2 bs) ≡ e = word_drop 2 bs 0 2 refl in
    let counts : front (drop 4 bs) ≡ word_at bs 4 = word_drop 4 bs 0 4 refl in
    let after = range_after n low seen p bs (omega arith) r.above k r.ordered o (sym r.index) in
    let tail : ℕ → Read = λ x. ranges n (x + 1) (seen + (x + 1 - s)) (p + 6) (drop 6 bs) in
    let left2 : fault_of (tail e) ≡ None = sym (ap (λ x. fault_of (tail x)) ends) ∙ left in
    let ih = range_rows n (e + 1) (seen + (e + 1 - s)) (p + 6) (drop 6 bs) left2 in
    let f : (j : ℕ) → word_at (drop 6 bs) (6 * j) ≡ word_at bs (6 * suc j) = λ j. word_drop 6 bs (6 * j) (6 * suc j) (omega arith) in
    let g : (j : ℕ) → word_at (drop 6 bs) (2 + 6 * j) ≡ word_at bs (2 + 6 * suc j) = λ j. word_drop 6 bs (2 + 6 * j) (2 + 6 * suc j) (omega arith) in
    let m : (j : ℕ) → word_at (drop 6 bs) (4 + 6 * j) ≡ word_at bs (4 + 6 * suc j) = λ j. word_drop 6 bs (4 + 6 * j) (4 + 6 * suc j) (omega arith) in
    let rest = given (tail e) in (
      omega (arith, length-drop 6 bs),
      (
        r.above,
        omega (arith, r.ordered),
        omega (arith, r.index),
        (
          rest,
          ap given (after ∙ ap (λ x. also (run s (x + 1 - s)) (tail x)) ends) ∙ given_also (run s (e + 1 - s)) (tail e) left2,
          rows_as n _ _ _ _ _ _ _ _ _ _ f g m refl ih.1,
        ),
      ),
    )

-- what the view's steps use of a table: its length by its format, and its rows
pub record Table (bs : List ℕ) : Type 0 where
  pub long : ((word_at bs 0 ≡ 1) × (length bs ≡ 4 + 2 * range_count bs)) ⊎ ((word_at bs 0 ≡ 1 → ⊥) × (length bs ≡ 4 + 6 * range_count bs))
  pub rows : Rows (range_count bs) (start_of bs) (end_of bs) (index_of bs) 0 0 (covered bs)

module _ (bs : List ℕ) (sound : Sound bs) where
  whole_front : 2 ≤ length bs
  whole_front = ⊎_elim (λ h. clash _ 0 (ap fault_of sound) (ap fault_of (reads_empty bs h))) (λ h. h) (cases_lt (length bs) 2)

  whole_count : 2 ≤ length (drop 2 bs)
  whole_count =
      ⊎_elim (λ h. let b = reads_short bs whole_front h in clash _ b.0 (ap fault_of sound) (ap fault_of b.1)) (λ h. h) (cases_lt (length (drop 2 bs)) 2)

  pub table_whole : 4 ≤ length bs
  table_whole = omega (arith, whole_count, length-drop 2 bs)

  count : range_count bs ≡ front (drop 2 bs)
  count = sym (word_drop 2 bs 0 2 refl)

  cut : drop 4 bs ≡ drop 2 (drop 2 bs)
  cut = sym (drop-drop 2 2 bs)

  listed : front bs ≡ 1 → Table bs
  listed one =
      let e = reads_glyphs bs (drop 2 bs) (drop 4 bs) (front bs) (range_count bs) whole_front refl whole_count cut refl count one in
      let r = glyph_rows (range_count bs) 0 0 4 (drop 4 bs) (sym (ap fault_of e) ∙ ap fault_of sound) in
      let t : eqb (word_at bs 0) 1 ≡ true = eq-eqb (word_at bs 0) 1 one in
      let w : (k : ℕ) → word_at (drop 4 bs) (2 * k) ≡ start_of bs k = λ k. word_drop 4 bs (2 * k) (4 + 2 * k) refl ∙ sym (ap (λ x. cond x (word_at bs (4 + 2 * k)) (word_at bs (4 + 6 * k))) t) in
      let v : (k : ℕ) → word_at (drop 4 bs) (2 * k) ≡ end_of bs k = λ k. word_drop 4 bs (2 * k) (4 + 2 * k) refl ∙ sym (ap (λ x. cond x (word_at bs (4 + 2 * k)) (word_at bs (6 + 6 * k))) t) in
      let i : (k : ℕ) → 0 + k ≡ index_of bs k = λ k. let z : 0 + k ≡ k = omega arith in z ∙ sym (ap (λ x. cond x k (word_at bs (8 + 6 * k))) t) in
      record {
        long = inl (one, omega (arith, r.0, length-drop 4 bs, table_whole));
        rows = rows_as (range_count bs) _ _ _ _ _ _ _ _ _ _ w v i (ap given (sym e)) r.1;
      }

  ranged : (front bs ≡ 1 → ⊥) → Table bs
  ranged other =
      let two : front bs ≡ 2 = ⊎_elim (λ e. e) (λ e. clash _ 0 (ap fault_of sound) (ap fault_of (reads_none bs whole_front other e))) (cases_eq (front bs) 2) in
      let e = reads_ranges bs (drop 2 bs) (drop 4 bs) (front bs) (range_count bs) whole_front refl whole_count cut refl count two in
      let r = range_rows (range_count bs) 0 0 4 (drop 4 bs) (sym (ap fault_of e) ∙ ap fault_of sound) in
      let t : eqb (word_at bs 0) 1 ≡ false = ne_eqb (word_at bs 0) 1 other in
      let w : (k : ℕ) → word_at (drop 4 bs) (6 * k) ≡ start_of bs k = λ k. word_drop 4 bs (6 * k) (4 + 6 * k) refl ∙ sym (ap (λ x. cond x (word_at bs (4 + 2 * k)) (word_at bs (4 + 6 * k))) t) in
      let v : (k : ℕ) → word_at (drop 4 bs) (2 + 6 * k) ≡ end_of bs k = λ k. word_drop 4 bs (2 + 6 * k) (6 + 6 * k) (omega arith) ∙ sym (ap (λ x. cond x (word_at bs (4 + 2 * k)) (word_at bs (6 + 6 * k))) t) in
      let i : (k : ℕ) → word_at (drop 4 bs) (4 + 6 * k) ≡ index_of bs k = λ k. word_drop 4 bs (4 + 6 * k) (8 + 6 * k) (omega arith) ∙ sym (ap (λ x. cond x k (word_at bs (8 + 6 * k))) t) in
      record {
        long = inr (other, omega (arith, r.0, length-drop 4 bs, table_whole));
        rows = rows_as (range_count bs) _ _ _ _ _ _ _ _ _ _ w v i (ap given (sym e)) r.1;
      }

  pub table : Table bs
  table = ⊎_elim listed ranged (cases_eq (front bs) 1)

  ordered : (k : ℕ) → k < range_count bs → start_of bs k ≤ end_of bs k
  ordered k within = (rows_at (range_count bs) _ _ _ _ _ _ table.rows k within).1

  -- the arrays behind the count, by their format
  module _ (n : ℕ) (xs : Bor (List (List ℕ))) (is : xs.now ≡ first_chunks n (length (drop 4 bs) / n) (drop 4 bs)) where
    said : (k p q : ℕ) (d : List ℕ) → k < length (drop 4 bs) / n → p + 1 < n → 4 + (n * k + p) ≡ q → word_at (slice_index_or xs.now k d) p ≡ word_at bs q
    said k p q d within inside e = ap (λ l. word_at (get_or l k d) p) is ∙ word_chunk n _ (drop 4 bs) k p d within inside ∙ word_drop 4 bs (n * k + p) q e

  pub list_is : (xs : Bor (List (List ℕ))) → word_at bs 0 ≡ 1 → xs.now ≡ first_chunks 2 (length (drop 4 bs) / 2) (drop 4 bs) → length xs.now ≡ length (drop 4 bs) / 2 → Tabled bs (Glyphs xs)
  list_is xs one is long =
      let t = sym (eq-eqb (word_at bs 0) 1 one) in
      let count : length (drop 4 bs) / 2 ≡ range_count bs = ⊎_elim (λ a. omega (arith, length-drop 4 bs)) (λ a. absurd (a.0 one)) table.long in (
        long ∙ count,
        λ k d within.
            let at = said 2 xs is k 0 (4 + 2 * k) d (omega arith) (omega arith) (omega arith) in
            record {
              start = at ∙ ap (λ x. cond x (word_at bs (4 + 2 * k)) (word_at bs (4 + 6 * k))) t;
              end = at ∙ ap (λ x. cond x (word_at bs (4 + 2 * k)) (word_at bs (6 + 6 * k))) t;
              index = ap (λ x. cond x k (word_at bs (8 + 6 * k))) t;
              ordered = omega arith;
            },
      )

  pub ranges_are : (xs : Bor (List (List ℕ))) → (word_at bs 0 ≡ 1 → ⊥) → xs.now ≡ first_chunks 6 (length (drop 4 bs) / 6) (drop 4 bs) → length xs.now ≡ length (drop 4 bs) / 6 → Tabled bs (Ranges xs)
  ranges_are xs other is long =
      let t = sym (ne_eqb (word_at bs 0) 1 other) in
      let count : length (drop 4 bs) / 6 ≡ range_count bs = ⊎_elim (λ a. absurd (other a.0)) (λ a. omega (arith, length-drop 4 bs)) table.long in (
        long ∙ count,
        λ k d within.
            let start = said 6 xs is k 0 (4 + 6 * k) d (omega arith) (omega arith) (omega arith) ∙ ap (λ x. cond x (word_at bs (4 + 2 * k)) (word_at bs (4 + 6 * k))) t in
            let end = said 6 xs is k 2 (6 + 6 * k) d (omega arith) (omega arith) (omega arith) ∙ ap (λ x. cond x (word_at bs (4 + 2 * k)) (word_at bs (6 + 6 * k))) t in
            record {
              start = start;
              end = end;
              index = said 6 xs is k 4 (8 + 6 * k) d (omega arith) (omega arith) (omega arith) ∙ ap (λ x. cond x k (word_at bs (8 + 6 * k))) t;
              ordered = omega (arith, start, end, ordered k within);
            },
      )

module _ (bs : List ℕ) (sound : Sound bs) where
  ends_rise : (j k : ℕ) → j < k → k < range_count bs → end_of bs j < start_of bs k
  ends_rise j k l h = (rows_apart (range_count bs) _ _ _ _ _ _ (table bs sound).rows j k l h).0

  indices_rise : (j k : ℕ) → j < k → k < range_count bs → last_index bs j < index_of bs k
  indices_rise j k l h = (rows_apart (range_count bs) _ _ _ _ _ _ (table bs sound).rows j k l h).1

  pub index_small : (k : ℕ) → k < range_count bs → index_of bs k ≤ start_of bs k
  index_small k within = rows_small (range_count bs) _ _ _ _ _ _ (table bs sound).rows (omega arith) k within

  pub index_least : (k : ℕ) → k < range_count bs → k ≤ index_of bs k
  index_least k within = omega (arith, rows_many (range_count bs) _ _ _ _ _ _ (table bs sound).rows k within)

  index_held : (x k : ℕ) → k < range_count bs → HoldsIndex bs k x → glyph_at (covered bs) x ≡ Some (start_of bs k + (x - index_of bs k))
  index_held x k within h =
      let z : start_of bs k + (0 + x - index_of bs k) ≡ start_of bs k + (x - index_of bs k) = omega arith in
      rows_glyph (range_count bs) _ _ _ _ _ _ (table bs sound).rows k x within (omega arith) (omega arith) ∙ ap Some z

  -- what is found by a glyph, and by an index
  module _ (x : ℕ) where
    pub glyph_found : (k : ℕ) → k < range_count bs → HoldsGlyph bs k x → index_in x 0 (covered bs) ≡ Some (index_of bs k + (x - start_of bs k))
    glyph_found k within h = rows_found (range_count bs) _ _ _ _ _ _ (table bs sound).rows k x within h.0 h.1

    pub glyph_absent : ((k : ℕ) → k < range_count bs → HoldsGlyph bs k x → ⊥) → index_in x 0 (covered bs) ≡ None
    glyph_absent h = rows_absent (range_count bs) _ _ _ _ _ _ (table bs sound).rows x (λ k within a b. h k within (a, b))

    pub index_found : (k : ℕ) → k < range_count bs → HoldsIndex bs k x → glyph_at (covered bs) x ≡ Some (start_of bs k + (x - index_of bs k))
    index_found = index_held x

    pub index_absent : ((k : ℕ) → k < range_count bs → HoldsIndex bs k x → ⊥) → glyph_at (covered bs) x ≡ None
    index_absent h = rows_beyond (range_count bs) _ _ _ _ _ _ (table bs sound).rows x (λ k within a b. h k within (omega arith, omega arith))

-- how many glyphs there are, by the last range, or with none
module _ (bs : List ℕ) (sound : Sound bs) where
  pub count_by_last : (k : ℕ) → range_count bs ≡ k + 1 → last_index bs k + 1 ≡ length (covered bs)
  count_by_last k e =
      let one : range_count bs ≡ suc k = omega arith in
      let r = subst (λ n. Rows n (start_of bs) (end_of bs) (index_of bs) 0 0 (covered bs)) one (table bs sound).rows in
      omega (arith, ordered bs sound k (omega arith), rows_count k (start_of bs) (end_of bs) (index_of bs) 0 0 (covered bs) r)

  pub count_none : range_count bs ≡ 0 → length (covered bs) ≡ 0
  count_none e = ap length (subst (λ n. Rows n (start_of bs) (end_of bs) (index_of bs) 0 0 (covered bs)) e (table bs sound).rows)

  pub count_listed : (gs : Bor (List (List ℕ))) → Tabled bs (Glyphs gs) → length gs.now ≡ length (covered bs)
  count_listed gs is =
      ⊎_elim (λ e. omega (arith, is.0, count_none e)) (λ e.
      let k = range_count bs - 1 in
      let r = is.1 k [] (omega arith) in
      omega (arith, is.0, r.start, r.end, r.index, count_by_last k (omega arith))) (cases_eq (range_count bs) 0)

  pub count_ranged : (rs : Bor (List (List ℕ))) → Tabled bs (Ranges rs) → 1 ≤ length rs.now
      → word_at (slice_index_or rs.now (length rs.now - 1) []) 4 + (word_at (slice_index_or rs.now (length rs.now - 1) []) 2 - word_at (slice_index_or rs.now (length rs.now - 1) []) 0) + 1 ≡ length (covered bs)
  count_ranged rs is some = let r = is.1 (length rs.now - 1) [] (omega (arith, is.0)) in omega (arith, r.start, r.end, r.index, count_by_last (length rs.now - 1) (omega (arith, is.0)))

-- a walk: where it begins, and one glyph more, in the same range or past it
pub stands_first : (bs : List ℕ) → Sound bs → Stands bs 0 0
stands_first bs sound =
    record {
      sound = sound;
      here = λ h. let first = rows_first (range_count bs) _ _ _ _ _ _ (table bs sound).rows h in (omega arith, omega arith);
      done = λ h. sym (count_none bs sound (omega arith));
    }

module _ (bs : List ℕ) (k x : ℕ) (at : Stands bs k x) (within : k < range_count bs) where
  pub stands_more : x < index_of bs k + (end_of bs k - start_of bs k) → Stands bs k (x + 1)
  stands_more h = let here = at.here within in record { sound = at.sound; here = λ _. (omega arith, omega arith); done = λ out. absurd (omega arith) }

  pub stands_past : x ≡ index_of bs k + (end_of bs k - start_of bs k) → Stands bs (k + 1) (x + 1)
  stands_past h =
      let one : k + 1 ≡ suc k = omega arith in
      let order = (rows_at (range_count bs) _ _ _ _ _ _ (table bs at.sound).rows k within).1 in
      subst (λ m. Stands bs m (x + 1)) (sym one)
      (record {
        sound = at.sound;
        here = λ on. let next = rows_next (range_count bs) _ _ _ _ _ _ (table bs at.sound).rows k on in (omega arith, omega arith);
        done = λ out. let all = count_by_last bs at.sound k (omega arith) in omega arith;
      })

glyph_within : (gs : List ℕ) (x g : ℕ) → glyph_at gs x ≡ Some g → x < length gs
glyph_within [] x g h = clash None g refl h
glyph_within (y ∷ gs) zero g h = omega arith
glyph_within (y ∷ gs) (suc x) g h = let r = glyph_within gs x g h in omega arith

-- the glyph at which a walk stands
pub stands_glyph : (bs : List ℕ) (k x s e i : ℕ) → Stands bs k x → k < range_count bs → RangeIs bs k s e i → (glyph_at (covered bs) x ≡ Some (s + (x - i))) × (x < length (covered bs))
stands_glyph bs k x s e i at within r =
    let z : start_of bs k + (x - index_of bs k) ≡ s + (x - i) = omega arith in
    let found = index_held bs at.sound x k within (at.here within) ∙ ap Some z in
    (found, glyph_within (covered bs) x _ found)

-- halving: what the m-th range tells of those before it, and of those after
module _ (bs : List ℕ) (sound : Sound bs) (x m : ℕ) (within : m < range_count bs) where
  pub glyphs_before : end_of bs m < x → (k : ℕ) → k < m + 1 → end_of bs k < x
  glyphs_before e k h = ⊎_elim (λ same. omega (arith, ap (end_of bs) same)) (λ other. omega (arith, ends_rise bs sound k m (omega arith) within, ordered bs sound m within)) (cases_eq k m)

  pub glyphs_after : x < start_of bs m → (k : ℕ) → m ≤ k → k < range_count bs → x < start_of bs k
  glyphs_after e k h on = ⊎_elim (λ same. omega (arith, ap (start_of bs) same)) (λ other. omega (arith, ends_rise bs sound m k (omega arith) on, ordered bs sound m within)) (cases_eq k m)

  pub indices_before : last_index bs m < x → (k : ℕ) → k < m + 1 → last_index bs k < x
  indices_before e k h = ⊎_elim (λ same. omega (arith, ap (last_index bs) same)) (λ other. omega (arith, indices_rise bs sound k m (omega arith) within)) (cases_eq k m)

  pub indices_after : x < index_of bs m → (k : ℕ) → m ≤ k → k < range_count bs → x < index_of bs k
  indices_after e k h on = ⊎_elim (λ same. omega (arith, ap (index_of bs) same)) (λ other. omega (arith, indices_rise bs sound m k (omega arith) on)) (cases_eq k m)

-- where each range has one index, its number, the range with that number is the one that holds it
pub held_at : (bs : List ℕ) (x : ℕ) → ((k : ℕ) → k < range_count bs → (index_of bs k ≡ k) × (last_index bs k ≡ k)) → (o : Option RangeRecord)
    → MatchOption o (range_count bs ≤ x) (λ r. (x < range_count bs) × RangeIs bs x r.start r.end r.index)
    → MatchOption o ((k : ℕ) → k < range_count bs → HoldsIndex bs k x → ⊥) (λ r. (k : ℕ) × (k < range_count bs) × RangeIs bs k r.start r.end r.index × HoldsIndex bs k x)
held_at bs x own None h = λ k within m. omega (arith, own k within)
held_at bs x own (Some r) h = (x, h.0, h.1, (omega (arith, own x h.0), omega (arith, own x h.0)))
