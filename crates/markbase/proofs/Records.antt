-- The records of the arrays, by their numbers.
use Rattle.std.proofs.Common.{◌≡◌, ℕ, ◌+◌, ◌*◌, ◌<◌, ◌≤◌, cond, eqb, ltb, true, List, [], ◌∷◌, length, get_or, is_ok, None, Ok, Err, Option, Result, sym, refl, ap, ◌∙◌, mul_comm, arith}
use Rattle.std.proofs.lemmas.List.{length-drop}
use Rattle.std.proofs.lemmas.Bool.{le-leb, ltb-true, true≢false}
use Rattle.serialize.specs.declared.link.Link.{Link}
use Rattle.serialize.specs.Objects.{Ascends}
use Rattle.fields.specs.Fields.{Rest, nullable, allowed, give, times, whole, start, ◌⟫◌, from, seek}
use Rattle.markbase.specs.declared.mark_array.MarkArray.{MarkArray}
use Rattle.markbase.specs.declared.base_array.BaseArray.{BaseArray}
use Rattle.markbase.specs.Nodes.{node_of, read}
use Rattle.markbase.specs.Views.{list_of, marks_of, rows_of}
use Rattle.markbase.proofs.Repeats.{fault_of}
use Rattle.fields.specs.Arrays.{mark, mark_array_reader, base_array_reader}
use Rattle.fields.proofs.Seeks.{Steady, nullable_long, ended_ok, then_ok, ok_pair, word_ok, allowed_ok, allowed_steady, nullable_steady, then_steady, give_steady, times_steady, times_at}

from_zero : (ls : List Link) → from 0 ls ≡ ls
from_zero [] = refl
from_zero (l ∷ ls) = ap (λ b. cond b (l ∷ ls) (from 0 ls)) (le-leb 0 l.position (omega arith))

pub start_seek : (bs : List ℕ) (ls : List Link) → start bs ls ≡ seek 0 bs ls
start_seek bs ls = let e = from_zero ls in λ i. record { place = 0; bytes = bs; links = sym e i }

pub fault_none : {A : Type 0} (x : Result (List A) ℕ) → fault_of x ≡ None → x ≡ Ok (list_of x)
fault_none (Ok as') e = refl
fault_none (Err p) e = let z : ◌≡◌ {A = ℕ} 0 1 = cc in absurd (omega arith)

module _ (bs : List ℕ) (ls : List Link) (up : Ascends ls) where
  pub mark_steady : (k : ℕ) → Steady bs ls (mark k) 4
  mark_steady k =
      then_steady bs ls up (allowed (λ c. ltb c k)) (λ class. nullable ⟫ λ anchor. give (class, anchor)) 2 2 (allowed_steady bs ls up (λ c. ltb c k))
      (λ class. give_steady bs ls up nullable (λ anchor. (class, anchor)) 2 (nullable_steady bs ls up))

  module _ (n k : ℕ) (ms : List (ℕ × Option ℕ)) (e : whole (mark_array_reader n k) bs ls ≡ Ok ms) where
    behind_count : (t : Rest) × (times n (mark k) (seek 2 bs ls) ≡ Ok (ms, t))
    behind_count =
        let o = ended_ok (mark_array_reader n k (start bs ls)) ms e in
        let p = then_ok (allowed (eqb n) (start bs ls)) (λ count. times n (mark k)) ms o.0 o.1 in
        let f = (allowed_steady bs ls up (eqb n)).goes 0 p.0 p.1 (ap (allowed (eqb n)) (sym (start_seek bs ls)) ∙ p.2) in
        (o.0, ap (times n (mark k)) (sym f) ∙ p.3)

    pub marks_count : length ms ≡ n
    marks_count = (times_steady bs ls up (mark k) 4 (mark_steady k) n 2 ms behind_count.0 behind_count.1).1

    pub marks_at : (i : ℕ) → i < length ms → (u : Rest) × (mark k (seek (2 + 4 * i) bs ls) ≡ Ok (get_or ms i (0, None), u))
    marks_at i h = let c = marks_count in times_at bs ls up (mark k) 4 (mark_steady k) n 2 ms behind_count.0 behind_count.1 i (0, None) (omega arith)

    pub marks_within : (i : ℕ) → i < length ms → 2 + 4 * i ≤ length bs
    marks_within i h =
        let m = marks_at i h in
        let s = seek (2 + 4 * i) bs ls in
        let p = then_ok (allowed (λ c. ltb c k) s) (λ class. nullable ⟫ λ anchor. give (class, anchor)) (get_or ms i (0, None)) m.0 m.1 in
        let w = word_ok s p.0 p.1 (allowed_ok (λ c. ltb c k) s p.0 p.1 p.2).0 in
        omega (arith, length-drop (2 + 4 * i) bs)

    pub marks_classed : (i : ℕ) → i < length ms → (get_or ms i (0, None)).0 < k
    marks_classed i h =
        let m = marks_at i h in
        let s = seek (2 + 4 * i) bs ls in
        let p = then_ok (allowed (λ c. ltb c k) s) (λ class. nullable ⟫ λ anchor. give (class, anchor)) (get_or ms i (0, None)) m.0 m.1 in
        let q = then_ok (nullable p.1) (λ anchor. give (p.0, anchor)) (get_or ms i (0, None)) m.0 p.3 in
        let same = ap (λ x. x.0) (ok_pair q.3).0 in
        let below = ltb-true p.0 k (allowed_ok (λ c. ltb c k) s p.0 p.1 p.2).1 in
        omega arith

module _ (bs : List ℕ) (ls : List Link) (up : Ascends ls) where
  row_steady : (k : ℕ) → Steady bs ls (times k nullable) (k * 2)
  row_steady k = record { goes = λ p a t e. (times_steady bs ls up nullable 2 (nullable_steady bs ls up) k p a t e).0 }

  module _ (n k : ℕ) (rows : List (List (Option ℕ))) (e : whole (base_array_reader n k) bs ls ≡ Ok rows) where
    behind_rows : (t : Rest) × (times n (times k nullable) (seek 2 bs ls) ≡ Ok (rows, t))
    behind_rows =
        let o = ended_ok (base_array_reader n k (start bs ls)) rows e in
        let p = then_ok (allowed (eqb n) (start bs ls)) (λ count. times n (times k nullable)) rows o.0 o.1 in
        let f = (allowed_steady bs ls up (eqb n)).goes 0 p.0 p.1 (ap (allowed (eqb n)) (sym (start_seek bs ls)) ∙ p.2) in
        (o.0, ap (times n (times k nullable)) (sym f) ∙ p.3)

    pub rows_count : length rows ≡ n
    rows_count = (times_steady bs ls up (times k nullable) (k * 2) (row_steady k) n 2 rows behind_rows.0 behind_rows.1).1

    pub anchor_at : (i j : ℕ) → i < length rows → j < k → (u : Rest) × (nullable (seek (2 + 2 * k * i + 2 * j) bs ls) ≡ Ok (get_or (get_or rows i []) j None, u))
    anchor_at i j h l =
        let c = rows_count in
        let r = times_at bs ls up (times k nullable) (k * 2) (row_steady k) n 2 rows behind_rows.0 behind_rows.1 i [] (omega arith) in
        let a = times_at bs ls up nullable 2 (nullable_steady bs ls up) k (2 + k * 2 * i) (get_or rows i []) r.0 r.1 j None l in
        (a.0, ap (λ w. nullable (seek (2 + w * i + 2 * j) bs ls)) (mul_comm 2 k) ∙ a.1)

    pub anchor_within : (i j : ℕ) → i < length rows → j < k → 2 + 2 * k * i + 2 * j ≤ length bs
    anchor_within i j h l =
        let a = anchor_at i j h l in
        omega (arith, nullable_long (seek (2 + 2 * k * i + 2 * j) bs ls) (get_or (get_or rows i []) j None) a.0 a.1, length-drop (2 + 2 * k * i + 2 * j) bs)

-- the arrays that views stand for
list_known : {A : Type 0} (x : Result (List A) ℕ) → is_ok x ≡ true → x ≡ Ok (list_of x)
list_known (Ok as') e = refl
list_known (Err p) e = absurd (true≢false (sym e))

pub marks_read : (m : MarkArray) → read (mark_array_reader m.count m.class_count) (node_of m.vertex) ≡ Ok (marks_of m)
unfolding marks_of
marks_read m = list_known _ m.stands

pub rows_read : (m : BaseArray) → read (base_array_reader m.count m.class_count) (node_of m.vertex) ≡ Ok (rows_of m)
unfolding rows_of
rows_read m = list_known _ m.stands

module _ (m : MarkArray) (i : ℕ) (h : i < length (marks_of m)) where
  pub mark_within : 2 + 4 * i ≤ length m.vertex.bytes.now
  mark_within = marks_within m.vertex.bytes.now m.vertex.links.now m.ascending m.count m.class_count (marks_of m) (marks_read m) i h

  pub mark_at : (u : Rest) × (mark m.class_count (seek (2 + 4 * i) m.vertex.bytes.now m.vertex.links.now) ≡ Ok (get_or (marks_of m) i (0, None), u))
  mark_at = marks_at m.vertex.bytes.now m.vertex.links.now m.ascending m.count m.class_count (marks_of m) (marks_read m) i h

module _ (m : BaseArray) (i j : ℕ) (h : i < length (rows_of m)) (l : j < m.class_count) where
  pub null_within : 2 + 2 * m.class_count * i + 2 * j ≤ length m.vertex.bytes.now
  null_within = anchor_within m.vertex.bytes.now m.vertex.links.now m.ascending m.count m.class_count (rows_of m) (rows_read m) i j h l

  pub null_at : (u : Rest) × (nullable (seek (2 + 2 * m.class_count * i + 2 * j) m.vertex.bytes.now m.vertex.links.now) ≡ Ok (get_or (get_or (rows_of m) i []) j None, u))
  null_at = anchor_at m.vertex.bytes.now m.vertex.links.now m.ascending m.count m.class_count (rows_of m) (rows_read m) i j h l
