-- Vertices whose bytes lie apart are no longer together than the area that they lie in.
use Rattle.std.proofs.Common.{◌≡◌, ℕ, zero, suc, ◌+◌, ◌<◌, ◌≤◌, Bool, true, false, ◌⊎◌, List, length, get_or, set, replicate, refl, ◌∙◌, inl, inr, ⊎_elim, arith}
use Rattle.std.proofs.lemmas.List.{length-set, length-replicate}
use Rattle.std.proofs.lemmas.Bool.{cases_Bool}
use Rattle.graph.specs.declared.vertex.Vertex.{Vertex}
use Rattle.graph.specs.Sound.{vertex_at, Below, Owns, Apart}
use Rattle.walk.specs.Reach.{Marked}
use Rattle.walk.proofs.Marking.{set_cases, none_marked, unmarked, unmarked_set, unmarked_le}

-- the sum of the first n numbers
abbrev pub sum_to : (ℕ → ℕ) → ℕ → ℕ
sum_to f zero = 0
sum_to f (suc n) = sum_to f n + f n

-- places of the area: those in ns were in ms, or are among the n from h on, and these are new
record Stretched (ms : List Bool) (h n : ℕ) (ns : List Bool) : Type 0 where
  long : length ns ≡ length ms
  fewer : unmarked ns + n ≡ unmarked ms
  comes : (p : ℕ) → Marked ns p → Marked ms p ⊎ ((h ≤ p) × (p < h + n))

stretched : (ms : List Bool) (h n : ℕ) → h + n ≤ length ms → ((p : ℕ) → h ≤ p → p < h + n → Marked ms p → ⊥) → (ns : List Bool) × Stretched ms h n ns
stretched ms h zero l free = (ms, record { long = refl; fewer = omega arith; comes = λ p m. inl m })
stretched ms h (suc n) l free =
    let r = stretched ms h n (omega arith) (λ p a b. free p a (omega arith)) in
    let ns = r.0 in
    let lt : h + n < length ns = omega (arith, r.1.long) in
    let new : Marked ns (h + n) → ⊥ = λ m. ⊎_elim (free (h + n) (omega arith) (omega arith)) (λ q. omega (arith, q.1)) (r.1.comes (h + n) m) in
    let off : get_or ns (h + n) false ≡ false = ⊎_elim (λ t. absurd (new t)) (λ f. f) (cases_Bool (get_or ns (h + n) false)) in (
      set ns (h + n) true,
      record {
        long = length-set ns (h + n) true ∙ r.1.long;
        fewer = omega (arith, unmarked_set ns (h + n) lt off, r.1.fewer);
        comes = λ p m.
            ⊎_elim (λ same. inr (omega arith, omega arith)) (λ o. ⊎_elim (λ old. inl old) (λ q. inr (q.0, omega (arith, q.1))) (r.1.comes p o)) (set_cases ns (h + n) p m);
      },
    )

abbrev len_of : List Vertex → ℕ → ℕ
len_of rs v = (vertex_at rs v).len

-- the places of the first n vertices
record Taken (rs : List Vertex) (mark n : ℕ) (ns : List Bool) : Type 0 where
  long : length ns ≡ mark
  fewer : unmarked ns + sum_to (len_of rs) n ≤ mark
  owned : (p : ℕ) → Marked ns p → (u : ℕ) × (u < n) × Owns rs u p

taken : (rs : List Vertex) (mark : ℕ) → Below rs mark → Apart rs → (n : ℕ) → n ≤ length rs → (ns : List Bool) × Taken rs mark n ns
taken rs mark below apart zero l = (
  replicate mark false,
  record {
    long = length-replicate mark false;
    fewer = omega (arith, unmarked_le (replicate mark false), length-replicate mark false);
    owned = λ p m. absurd (none_marked mark p m);
  },
)
taken rs mark below apart (suc n) l =
    let r = taken rs mark below apart n (omega arith) in
    let lt : n < length rs = omega arith in
    let s =
    stretched r.0 (vertex_at rs n).head (vertex_at rs n).len (omega (arith, below n lt, r.1.long))
    (λ p a b m. let o = r.1.owned p m in apart p o.0 n (o.1, o.2, (lt, a, b))) in (
      s.0,
      record {
        long = s.1.long ∙ r.1.long;
        fewer = omega (arith, s.1.fewer, r.1.fewer);
        owned = λ p m. ⊎_elim (λ old. let o = r.1.owned p old in (o.0, omega (arith, o.1), o.2)) (λ q. (n, omega arith, (lt, q.0, q.1))) (s.1.comes p m);
      },
    )

pub within_mark : (rs : List Vertex) (mark : ℕ) → Below rs mark → Apart rs → sum_to (len_of rs) (length rs) ≤ mark
within_mark rs mark below apart = omega (arith, (taken rs mark below apart (length rs) (omega arith)).1.fewer)
