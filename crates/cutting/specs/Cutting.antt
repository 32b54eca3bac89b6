-- Cuttings of neighbouring classes into runs. The run x .. y holds the classes from x up to, and not including, y; it holds one at least.
-- A cutting of the classes a .. k is written as the places between its runs: the places p, q stand for the runs a .. p, p .. q and q .. k.
use Rattle.std.specs.Prelude.{ℕ, ◌+◌, ◌<◌, ◌≤◌, List, [], ◌∷◌}

-- P holds of each run
abbrev pub Runs : (ℕ → ℕ → Type 0) → ℕ → ℕ → List ℕ → Type 0
Runs P a k [] = P a k
Runs P a k (p ∷ ps) = P a p × Runs P p k ps

-- each run holds a class
abbrev pub Cutting : ℕ → ℕ → List ℕ → Type 0
Cutting a k ps = Runs (λ x y. x < y) a k ps

-- no run's size exceeds the reach r
abbrev pub Fits : (ℕ → ℕ → ℕ) → ℕ → ℕ → ℕ → List ℕ → Type 0
Fits size r a k ps = Runs (λ x y. size x y ≤ r) a k ps

-- no run fits with the class after it
abbrev pub Longest : (ℕ → ℕ → ℕ) → ℕ → ℕ → ℕ → List ℕ → Type 0
Longest size r a k ps = Runs (λ x y. y < k → r < size x (y + 1)) a k ps

-- a cutting that fits, each run as long as it can be
pub record Greedy (size : ℕ → ℕ → ℕ) (r a k : ℕ) (ps : List ℕ) : Type 0 where
  pub cuts : Cutting a k ps
  pub fits : Fits size r a k ps
  pub longest : Longest size r a k ps

-- a run within another is not larger
abbrev pub Monotone : (ℕ → ℕ → ℕ) → Type 0
Monotone size = (a b c d : ℕ) → a ≤ b → b < c → c ≤ d → size b c ≤ size a d

-- the class c alone exceeds the reach
abbrev pub Exceeds : (ℕ → ℕ → ℕ) → ℕ → ℕ → Type 0
Exceeds size r c = r < size c (c + 1)

-- each class below k fits alone
abbrev pub EachFits : (ℕ → ℕ → ℕ) → ℕ → ℕ → Type 0
EachFits size r k = (c : ℕ) → c < k → size c (c + 1) ≤ r

-- c is the lowest of the k classes that alone exceeds the reach
pub record LowestExceeds (size : ℕ → ℕ → ℕ) (r k c : ℕ) : Type 0 where
  pub within : c < k
  pub exceeds : Exceeds size r c
  pub lowest : EachFits size r c

-- no cutting of the k classes fits
abbrev pub NoneFits : (ℕ → ℕ → ℕ) → ℕ → ℕ → Type 0
NoneFits size r k = (ps : List ℕ) → Cutting 0 k ps → Fits size r 0 k ps → ⊥
