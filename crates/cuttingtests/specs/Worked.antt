-- Worked cuttings: the base is 4, and the things have the sizes 10, 20, 30, 40, 50 and 60.
use Rattle.std.specs.Prelude.{◌≡◌, ℕ, List, [], ◌∷◌, length, Ok, Err, Result}
use Rattle.cutting.specs.Computed.{greedy_cuts}
use Rattle.cuttingtests.specs.Shared.{at}
use Rattle.cuttingtests.specs.Sizes.{sized}

-- the greedy cutting of classes that use these things
abbrev pub cuts_of : List ℕ → ℕ → Result (List ℕ) ℕ
cuts_of things reach = greedy_cuts (sized (at things) (at (10 ∷ 20 ∷ 30 ∷ 40 ∷ 50 ∷ 60 ∷ [])) 4) reach (length things)

-- each row: the things, the reach, and the places or the class that exceeds it
pub record Worked : Type 0 where
  pub at_the_reach : cuts_of (0 ∷ 1 ∷ 2 ∷ []) 64 ≡ Ok []
  pub one_above : cuts_of (0 ∷ 1 ∷ 2 ∷ []) 63 ≡ Ok (2 ∷ [])
  pub counted_once : cuts_of (1 ∷ 1 ∷ 1 ∷ 0 ∷ []) 24 ≡ Ok (3 ∷ [])
  pub counted_anew : cuts_of (0 ∷ 1 ∷ 0 ∷ 1 ∷ []) 33 ≡ Ok (1 ∷ 2 ∷ 3 ∷ [])
  pub lowest : cuts_of (0 ∷ 1 ∷ 2 ∷ 5 ∷ 5 ∷ []) 34 ≡ Err 3
