-- What one field or one range does to the place of the first fault.
use Rattle.std.proofs.Common.{◌≡◌, ℕ, suc, ◌+◌, ◌-◌, ◌<◌, ◌≤◌, cond, eqb, leb, List, [], ◌∷◌, length, drop, Some, Ok, Err, sym, refl, ap, ◌∙◌, ⊎_elim, arith, length-drop}
use Rattle.std.proofs.lemmas.List.{drop-drop}
use Rattle.std.proofs.lemmas.Bool.{cases_eq, le-leb, lt-leb, eq-eqb, ne_eqb}
use Rattle.layout.specs.Format.{Read, field, allowed, also, run, glyphs, ranges, read_coverage}
use Rattle.layout.specs.Records.{fault_of, front, RangeAt}

pub fault_also : (gs : List ℕ) (r : Read) → fault_of (also gs r) ≡ fault_of r
fault_also gs (Ok hs) = refl
fault_also gs (Err p) = refl

pub field_short : (p : ℕ) (next : ℕ → List ℕ → Read) (bs : List ℕ) → length bs < 2 → field p next bs ≡ Err p
field_short p next [] h = refl
field_short p next (a ∷ []) h = refl
field_short p next (a ∷ b ∷ r) h = absurd (omega arith)

pub field_whole : (p : ℕ) (next : ℕ → List ℕ → Read) (bs : List ℕ) → 2 ≤ length bs → field p next bs ≡ next (front bs) (drop 2 bs)
field_whole p next [] h = absurd (omega arith)
field_whole p next (a ∷ []) h = absurd (omega arith)
field_whole p next (a ∷ b ∷ r) h = refl

pub allowed_not : (low x p : ℕ) (r : Read) → x < low → allowed (leb low x) p r ≡ Err p
allowed_not low x p r h = ap (λ t. allowed t p r) (lt-leb low x h)

pub allowed_so : (low x p : ℕ) (r : Read) → low ≤ x → allowed (leb low x) p r ≡ r
allowed_so low x p r h = ap (λ t. allowed t p r) (le-leb low x h)

abbrev pub glyph_then : ℕ → ℕ → ℕ → ℕ → List ℕ → Read
glyph_then n low p g rest = allowed (leb low g) p (also (g ∷ []) (glyphs n (g + 1) (p + 2) rest))

-- m ids are to come, of which n after the next
module _ (m n low p : ℕ) (bs : List ℕ) (more : m ≡ suc n) where
  glyphs_open : glyphs m low p bs ≡ field p (glyph_then n low p) bs
  glyphs_open = ap (λ k. glyphs k low p bs) more

  glyphs_whole : 2 ≤ length bs → glyphs m low p bs ≡ glyph_then n low p (front bs) (drop 2 bs)
  glyphs_whole h = glyphs_open ∙ field_whole p (glyph_then n low p) bs h

  pub glyph_short : length bs < 2 → fault_of (glyphs m low p bs) ≡ Some p
  glyph_short h = ap fault_of (glyphs_open ∙ field_short p (glyph_then n low p) bs h)

  pub glyph_low : 2 ≤ length bs → front bs < low → fault_of (glyphs m low p bs) ≡ Some p
  glyph_low h l = ap fault_of (glyphs_whole h) ∙ ap (λ t. fault_of (allowed t p (also (front bs ∷ []) (glyphs n (front bs + 1) (p + 2) (drop 2 bs))))) (lt-leb low (front bs) l)

  pub glyph_after : 2 ≤ length bs → low ≤ front bs → glyphs m low p bs ≡ also (front bs ∷ []) (glyphs n (front bs + 1) (p + 2) (drop 2 bs))
  glyph_after h l = glyphs_whole h ∙ ap (λ t. allowed t p (also (front bs ∷ []) (glyphs n (front bs + 1) (p + 2) (drop 2 bs)))) (le-leb low (front bs) l)

  pub glyph_next : 2 ≤ length bs → low ≤ front bs → fault_of (glyphs m low p bs) ≡ fault_of (glyphs n (front bs + 1) (p + 2) (drop 2 bs))
  glyph_next h l = ap fault_of (glyph_after h l) ∙ fault_also (front bs ∷ []) (glyphs n (front bs + 1) (p + 2) (drop 2 bs))

-- a range, from its last field to its first
abbrev pub index_then : ℕ → ℕ → ℕ → ℕ → ℕ → ℕ → List ℕ → Read
index_then n seen p s e i rest = allowed (eqb i seen) (p + 4) (also (run s (e + 1 - s)) (ranges n (e + 1) (seen + (e + 1 - s)) (p + 6) rest))

abbrev pub end_then : ℕ → ℕ → ℕ → ℕ → ℕ → List ℕ → Read
end_then n seen p s e rest = allowed (leb s e) (p + 2) (field (p + 4) (index_then n seen p s e) rest)

abbrev pub start_then : ℕ → ℕ → ℕ → ℕ → ℕ → List ℕ → Read
start_then n low seen p s rest = allowed (leb low s) p (field (p + 2) (end_then n seen p s) rest)

module _ (n low seen p : ℕ) (bs : List ℕ) where
  at_start : 2 ≤ length bs → ranges (suc n) low seen p bs ≡ start_then n low seen p (front bs) (drop 2 bs)
  at_start h = field_whole p (start_then n low seen p) bs h

  pub start_short : length bs < 2 → fault_of (ranges (suc n) low seen p bs) ≡ Some p
  start_short h = ap fault_of (field_short p (start_then n low seen p) bs h)

  pub start_low : 2 ≤ length bs → front bs < low → fault_of (ranges (suc n) low seen p bs) ≡ Some p
  start_low h l = ap fault_of (at_start h ∙ allowed_not low (front bs) p (field (p + 2) (end_then n seen p (front bs)) (drop 2 bs)) l)

  module _ (h : 2 ≤ length bs) (l : low ≤ front bs) where
    at_end_lem : ranges (suc n) low seen p bs ≡ field (p + 2) (end_then n seen p (front bs)) (drop 2 bs)
    at_end_lem = at_start h ∙ allowed_so low (front bs) p (field (p + 2) (end_then n seen p (front bs)) (drop 2 bs)) l

    pub end_short : length (drop 2 bs) < 2 → fault_of (ranges (suc n) low seen p bs) ≡ Some (p + 2)
    end_short k = ap fault_of (at_end_lem ∙ field_short (p + 2) (end_then n seen p (front bs)) (drop 2 bs) k)

    at_end_whole : 2 ≤ length (drop 2 bs) → ranges (suc n) low seen p bs ≡ end_then n seen p (front bs) (front (drop 2 bs)) (drop 2 (drop 2 bs))
    at_end_whole k = at_end_lem ∙ field_whole (p + 2) (end_then n seen p (front bs)) (drop 2 bs) k

    pub end_low : 2 ≤ length (drop 2 bs) → front (drop 2 bs) < front bs → fault_of (ranges (suc n) low seen p bs) ≡ Some (p + 2)
    end_low k m = ap fault_of (at_end_whole k ∙ allowed_not (front bs) (front (drop 2 bs)) (p + 2) (field (p + 4) (index_then n seen p (front bs) (front (drop 2 bs))) (drop 2 (drop 2 bs))) m)

    module _ (k : 2 ≤ length (drop 2 bs)) (m : front bs ≤ front (drop 2 bs)) where
      at_index : ranges (suc n) low seen p bs ≡ field (p + 4) (index_then n seen p (front bs) (front (drop 2 bs))) (drop 4 bs)
      at_index =
          at_end_whole k ∙ allowed_so (front bs) (front (drop 2 bs)) (p + 2) (field (p + 4) (index_then n seen p (front bs) (front (drop 2 bs))) (drop 2 (drop 2 bs))) m
          ∙ ap (field (p + 4) (index_then n seen p (front bs) (front (drop 2 bs)))) (drop-drop 2 2 bs)

      pub index_short : length (drop 4 bs) < 2 → fault_of (ranges (suc n) low seen p bs) ≡ Some (p + 4)
      index_short o = ap fault_of (at_index ∙ field_short (p + 4) (index_then n seen p (front bs) (front (drop 2 bs))) (drop 4 bs) o)

      at_index_whole : 2 ≤ length (drop 4 bs) → ranges (suc n) low seen p bs ≡ index_then n seen p (front bs) (front (drop 2 bs)) (front (drop 4 bs)) (drop 2 (drop 4 bs))
      at_index_whole o = at_index ∙ field_whole (p + 4) (index_then n seen p (front bs) (front (drop 2 bs))) (drop 4 bs) o

      rest : Read
      rest = ranges n (front (drop 2 bs) + 1) (seen + (front (drop 2 bs) + 1 - front bs)) (p + 6) (drop 2 (drop 4 bs))

      pub index_other : 2 ≤ length (drop 4 bs) → (front (drop 4 bs) ≡ seen → ⊥) → fault_of (ranges (suc n) low seen p bs) ≡ Some (p + 4)
      unfolding rest
      index_other o x = ap fault_of (at_index_whole o ∙ ap (λ t. allowed t (p + 4) (also (run (front bs) (front (drop 2 bs) + 1 - front bs)) rest)) (ne_eqb (front (drop 4 bs)) seen x))

      pub range_after : 2 ≤ length (drop 4 bs) → front (drop 4 bs) ≡ seen → ranges (suc n) low seen p bs ≡ also (run (front bs) (front (drop 2 bs) + 1 - front bs)) (ranges n (front (drop 2 bs) + 1) (seen + (front (drop 2 bs) + 1 - front bs)) (p + 6) (drop 6 bs))
      unfolding rest
      range_after o x =
          at_index_whole o ∙ ap (λ t. allowed t (p + 4) (also (run (front bs) (front (drop 2 bs) + 1 - front bs)) rest)) (eq-eqb (front (drop 4 bs)) seen x)
          ∙ ap (λ l. also (run (front bs) (front (drop 2 bs) + 1 - front bs)) (ranges n (front (drop 2 bs) + 1) (seen + (front (drop 2 bs) + 1 - front bs)) (p + 6) l)) (drop-drop 2 4 bs)

-- m ranges are to come, of which n after the next
pub range_next : (m n low seen p : ℕ) (bs : List ℕ) (s e : ℕ) → m ≡ suc n → RangeAt bs low seen s e → fault_of (ranges m low seen p bs) ≡ fault_of (ranges n (e + 1) (seen + (e + 1 - s)) (p + 6) (drop 6 bs))
range_next m n low seen p bs s e more r =
    let above : low ≤ front bs = rw r.start at r.above in
    let ordered : front bs ≤ front (drop 2 bs) = rw (r.start, r.end) at r.ordered in
    let whole = r.whole in
    let k : 2 ≤ length (drop 2 bs) = simp length-drop (omega arith) in
    let o : 2 ≤ length (drop 4 bs) = simp length-drop (omega arith) in
    let a = range_after n low seen p bs (omega arith) above k ordered o (sym r.index) in
    rw (more, r.start, r.end) (ap fault_of a ∙ fault_also _ _)

format_then : ℕ → List ℕ → Read
format_then f rest = cond (eqb f 1) (field 2 (λ n rest. glyphs n 0 4 rest) rest) (cond (eqb f 2) (field 2 (λ n rest. ranges n 0 0 4 rest) rest) (Err 0))

-- the two fields at the front of a table
module _ (bs body rest : List ℕ) (f n : ℕ) (h : 2 ≤ length bs) (cut : body ≡ drop 2 bs) (k : 2 ≤ length body) (cut2 : rest ≡ drop 2 body) (format : f ≡ front bs) (count : n ≡ front body) where
  at_format : read_coverage bs ≡ format_then f body
  unfolding format_then
  at_format = rw (format, cut) (field_whole 0 format_then bs h)

  pub reads_glyphs : f ≡ 1 → read_coverage bs ≡ glyphs n 0 4 rest
  unfolding format_then
  reads_glyphs e = at_format ∙ rw (e, count, cut2) (field_whole 2 (λ n rest. glyphs n 0 4 rest) body k)

  pub reads_ranges : f ≡ 2 → read_coverage bs ≡ ranges n 0 0 4 rest
  unfolding format_then
  reads_ranges e = at_format ∙ rw (e, count, cut2) (field_whole 2 (λ n rest. ranges n 0 0 4 rest) body k)

pub reads_none : (bs : List ℕ) → 2 ≤ length bs → (front bs ≡ 1 → ⊥) → (front bs ≡ 2 → ⊥) → read_coverage bs ≡ Err 0
unfolding format_then
reads_none bs h a b =
    field_whole 0 format_then bs h ∙ ap (λ t. cond t (field 2 (λ n rest. glyphs n 0 4 rest) (drop 2 bs)) (cond (eqb (front bs) 2) (field 2 (λ n rest. ranges n 0 0 4 rest) (drop 2 bs)) (Err 0))) (ne_eqb (front bs) 1 a)
    ∙ ap (λ t. cond t (field 2 (λ n rest. ranges n 0 0 4 rest) (drop 2 bs)) (Err 0)) (ne_eqb (front bs) 2 b)

-- the bytes end before or inside the format, and the count
pub reads_empty : (bs : List ℕ) → length bs < 2 → read_coverage bs ≡ Err 0
unfolding format_then
reads_empty bs h = field_short 0 format_then bs h

pub reads_short : (bs : List ℕ) → 2 ≤ length bs → length (drop 2 bs) < 2 → (p : ℕ) × (read_coverage bs ≡ Err p)
unfolding format_then
reads_short bs h k =
    let glyphs-none = field_short 2 (λ n rest. glyphs n 0 4 rest) (drop 2 bs) k in
    let ranges-none = field_short 2 (λ n rest. ranges n 0 0 4 rest) (drop 2 bs) k in
    ⊎_elim (λ one. (2, field_whole 0 format_then bs h ∙ rw one glyphs-none))
    (λ other. ⊎_elim (λ two. (2, field_whole 0 format_then bs h ∙ rw two ranges-none)) (λ more. (0, reads_none bs h other more)) (cases_eq (front bs) 2))
    (cases_eq (front bs) 1)
