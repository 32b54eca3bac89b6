-- How long the marked vertices are together.
use Rattle.std.proofs.Common.{◌≡◌, ℕ, zero, suc, ◌+◌, ◌<◌, ◌≤◌, Bool, true, false, List, [], ◌∷◌, length, get_or, set, vec_items, vec_len, refl, ap, arith}
use Rattle.std.proofs.lemmas.Bool.{true≢false, false≢true}
use Rattle.serialize.specs.Objects.{Node, bytes_at}
use Rattle.graph.specs.declared.tables.Graph.{Graph}
use Rattle.graph.specs.Model.{view}
use Rattle.graph.proofs.Views.{row_of, count_is, bytes_long}
use Rattle.walk.specs.Reach.{Marked}
use Rattle.walk.specs.Computed.{marked_size}
use Rattle.walk.specs.Sizes.{size_limit}
use Rattle.walk.proofs.Disjoint.{sum_to, within_mark}

-- one mark more
pub size_set : (xs : List Node) (ms : List Bool) (v : ℕ) → v < length xs → v < length ms → get_or ms v false ≡ false → marked_size xs (set ms v true) ≡ length (bytes_at xs v) + marked_size xs ms
size_set [] ms v l m e = omega arith
size_set (x ∷ xs) [] v l m e = omega arith
size_set (x ∷ xs) (true ∷ ms) zero l m e = absurd (true≢false e)
size_set (x ∷ xs) (false ∷ ms) zero l m e = refl
size_set (x ∷ xs) (true ∷ ms) (suc v) l m e = omega (arith, size_set xs ms v (omega arith) (omega arith) e)
size_set (x ∷ xs) (false ∷ ms) (suc v) l m e = size_set xs ms v (omega arith) (omega arith) e

pub size_none : (xs : List Node) (ms : List Bool) → ((w : ℕ) → Marked ms w → ⊥) → marked_size xs ms ≡ 0
size_none [] ms clear = refl
size_none (x ∷ xs) [] clear = refl
size_none (x ∷ xs) (true ∷ ms) clear = absurd (clear 0 refl)
size_none (x ∷ xs) (false ∷ ms) clear = size_none xs ms (λ w. clear (suc w))

-- with more marks the size is no smaller
pub size_grows : (xs : List Node) (ms ns : List Bool) → length xs ≤ length ns → ((w : ℕ) → w < length xs → Marked ms w → Marked ns w) → marked_size xs ms ≤ marked_size xs ns
size_grows [] ms ns n h = omega arith
size_grows (x ∷ xs) [] ns n h = omega arith
size_grows (x ∷ xs) (b ∷ ms) [] n h = absurd (omega arith)
size_grows (x ∷ xs) (true ∷ ms) (true ∷ ns) n h = omega (arith, size_grows xs ms ns (omega arith) (λ w l. h (suc w) (omega arith)))
size_grows (x ∷ xs) (true ∷ ms) (false ∷ ns) n h = absurd (false≢true (h 0 (omega arith) refl))
size_grows (x ∷ xs) (false ∷ ms) (true ∷ ns) n h = omega (arith, size_grows xs ms ns (omega arith) (λ w l. h (suc w) (omega arith)))
size_grows (x ∷ xs) (false ∷ ms) (false ∷ ns) n h = size_grows xs ms ns (omega arith) (λ w l. h (suc w) (omega arith))

sum_front : (f : ℕ → ℕ) (n : ℕ) → sum_to f (suc n) ≡ f 0 + sum_to (λ k. f (suc k)) n
sum_front f zero = omega arith
sum_front f (suc n) = omega (arith, sum_front f n)

-- the marked vertices are no longer than all of them
size_le : (xs : List Node) (ms : List Bool) → marked_size xs ms ≤ sum_to (λ k. length (bytes_at xs k)) (length xs)
size_le [] ms = omega arith
size_le (x ∷ xs) [] = omega arith
size_le (x ∷ xs) (true ∷ ms) = omega (arith, size_le xs ms, sum_front (λ k. length (bytes_at (x ∷ xs) k)) (length xs))
size_le (x ∷ xs) (false ∷ ms) = omega (arith, size_le xs ms, sum_front (λ k. length (bytes_at (x ∷ xs) k)) (length xs))

sum_same : (f g : ℕ → ℕ) (n : ℕ) → ((k : ℕ) → k < n → f k ≡ g k) → sum_to f n ≡ sum_to g n
sum_same f g zero h = refl
sum_same f g (suc n) h = omega (arith, h n (omega arith), sum_same f g n (λ k l. h k (omega arith)))

-- in a graph the size stays below the limit
pub size_small : (g : Graph) (ms : List Bool) → marked_size (view g).nodes ms ≤ size_limit
size_small g ms =
    let count : length (view g).nodes ≡ length (vec_items g.vertices) = omega (arith, count_is g, g.vertices.ok.0) in
    let all = sum_same (λ v. length (bytes_at (view g).nodes v)) (λ v. (row_of g v).len) (length (view g).nodes) (λ v l. bytes_long g v (omega (arith, count_is g))) in
    omega (
      arith,
      size_le (view g).nodes ms,
      all,
      ap (sum_to (λ v. (row_of g v).len)) count,
      within_mark (vec_items g.vertices) (vec_len g.bytes) g.below g.apart,
      g.bytes_hold,
    )
