-- What a call that cuts classes is given and answers.
use Rattle.std.specs.Prelude.{◌≡◌, ℕ, ◌≤◌, List, length, take, drop, replicate, Ok, Err, Result}
use Rattle.cutting.specs.Cutting.{Greedy, Monotone, LowestExceeds}
use Rattle.cutting.specs.declared.ClassTooLarge.{ClassTooLarge}

-- classes to be cut: how many there are, and the size of each run of them
pub record Classes : Type 0 where
  pub count : ℕ
  pub size : ℕ → ℕ → ℕ
  pub monotone : Monotone size

-- a list of zeros
abbrev pub Clear : List ℕ → Type 0
Clear xs = xs ≡ replicate (length xs) 0

-- the first n entries of the list new are the places of the greedy cutting, and the others are those of the list old
pub record Cut (cs : Classes) (r n : ℕ) (old new : List ℕ) : Type 0 where
  pub within : n ≤ length new
  pub greedy : Greedy cs.size r 0 cs.count (take n new)
  pub rest : drop n new ≡ drop n old

-- the answer: the number of places, which the list then holds, or the lowest class that alone exceeds the reach, and the list as it was
abbrev pub SplitPoints : Classes → ℕ → Result ℕ ClassTooLarge → List ℕ → List ℕ → Type 0
SplitPoints cs r (Ok n) old new = Cut cs r n old new
SplitPoints cs r (Err e) old new = LowestExceeds cs.size r cs.count e.class × (new ≡ old)
