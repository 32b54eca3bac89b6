-- The greedy cutting, computed.
use Rattle.std.specs.Prelude.{◌≡◌, ℕ, zero, suc, ◌+◌, ◌-◌, true, false, List, [], ◌∷◌, Some, None, Ok, Err, Option, Result, nat_le}
use Rattle.cutting.specs.Cutting.{Greedy, LowestExceeds}

-- the lowest of the n classes from c on that alone exceeds the reach
abbrev pub exceeding : (ℕ → ℕ → ℕ) → ℕ → ℕ → ℕ → Option ℕ
exceeding size r zero c = None
exceeding size r (suc n) c = elim (nat_le (size c (c + 1)) r) [ true ↦ exceeding size r n (c + 1) | false ↦ Some c ]

-- the places after the run a .. b, which takes the next of the n classes after it if it still fits, and ends otherwise
abbrev pub places : (ℕ → ℕ → ℕ) → ℕ → ℕ → ℕ → ℕ → List ℕ
places size r zero a b = []
places size r (suc n) a b = elim (nat_le (size a (b + 1)) r) [ true ↦ places size r n a (b + 1) | false ↦ b ∷ places size r n b (b + 1) ]

-- the places, unless a class exceeds the reach
abbrev pub unless : Option ℕ → List ℕ → Result (List ℕ) ℕ
unless (Some c) ps = Err c
unless None ps = Ok ps

-- the places of the greedy cutting of k classes, or the lowest class that alone exceeds the reach
abbrev pub greedy_cuts : (ℕ → ℕ → ℕ) → ℕ → ℕ → Result (List ℕ) ℕ
greedy_cuts size r k = let ps = places size r (k - 1) 0 1 in unless (exceeding size r k 0) ps

-- what is computed is what is meant, both ways
pub record Agrees (size : ℕ → ℕ → ℕ) (r k : ℕ) : Type 0 where
  pub done : (ps : List ℕ) → greedy_cuts size r k ≡ Ok ps → Greedy size r 0 k ps
  pub is_done : (ps : List ℕ) → Greedy size r 0 k ps → greedy_cuts size r k ≡ Ok ps
  pub refused : (c : ℕ) → greedy_cuts size r k ≡ Err c → LowestExceeds size r k c
  pub is_refused : (c : ℕ) → LowestExceeds size r k c → greedy_cuts size r k ≡ Err c
