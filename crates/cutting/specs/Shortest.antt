-- What holds of greedy cuttings, whatever the sizes of the runs are.
use Rattle.std.specs.Prelude.{◌≡◌, ℕ, ◌<◌, ◌≤◌, List, [], length}
use Rattle.cutting.specs.Cutting.{Runs, Cutting, Fits, Greedy, Exceeds, EachFits, LowestExceeds, NoneFits}

-- at the reach r the classes x .. y are one run, and are cut in no other way
abbrev pub OneRun : (ℕ → ℕ → ℕ) → ℕ → ℕ → ℕ → Type 0
OneRun size r x y = Greedy size r x y [] × ((qs : List ℕ) → Greedy size r x y qs → qs ≡ [])

-- the laws of greedy cuttings
pub record Laws (size : ℕ → ℕ → ℕ) : Type 0 where
  -- where a class alone exceeds the reach, no cutting fits
  pub refused : (r k c : ℕ) → c < k → Exceeds size r c → NoneFits size r k
  -- where each class fits alone, there is a greedy cutting
  pub there : (r k : ℕ) → 0 < k → EachFits size r k → (ps : List ℕ) × Greedy size r 0 k ps
  -- where no cutting fits, there is a lowest class that alone exceeds the reach
  pub exactly : (r k : ℕ) → 0 < k → NoneFits size r k → (c : ℕ) × LowestExceeds size r k c
  -- there is one greedy cutting at most
  pub only : (r k : ℕ) (ps qs : List ℕ) → Greedy size r 0 k ps → Greedy size r 0 k qs → ps ≡ qs
  -- no cutting that fits has fewer runs
  pub fewest : (r k : ℕ) (ps qs : List ℕ) → Greedy size r 0 k ps → Cutting 0 k qs → Fits size r 0 k qs → length ps ≤ length qs
  -- a larger reach cuts no more often
  pub falls : (r s k : ℕ) (ps qs : List ℕ) → r ≤ s → Greedy size r 0 k ps → Greedy size s 0 k qs → length qs ≤ length ps
  -- each run is one run at every larger reach
  pub again : (r s k : ℕ) (ps : List ℕ) → r ≤ s → Greedy size r 0 k ps → Runs (OneRun size s) 0 k ps
