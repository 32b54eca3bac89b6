-- What two neighbouring runs give together is what their union gives; then all runs of a cutting give what the whole does.
use Rattle.std.proofs.Common.{◌≡◌, ℕ, ◌+◌, ◌<◌, List, [], ◌∷◌, ◌++◌, sum_by, ap, ◌∙◌, append-nil, arith}
use Rattle.std.specs.List.{flat_map, AllByRecursion}
use Rattle.std.proofs.lemmas.List.Sums.{sum_by-cons}
use Rattle.cutting.specs.Cutting.{Cutting}
use Rattle.pieces.specs.Pieces.{each_run}
use Rattle.pieces.proofs.Shapes.{before_end}

module _ {X : Type 0} (f : ℕ → ℕ → X) where
  pub runs_joined : {Y : Type 0} (h : X → List Y) → ((a p k : ℕ) → a < p → p < k → h (f a p) ++ h (f p k) ≡ h (f a k))
      → (ps : List ℕ) (a k : ℕ) → Cutting a k ps → flat_map h (each_run f a k ps) ≡ h (f a k)
  runs_joined h both [] a k cut = append-nil (h (f a k))
  runs_joined h both (p ∷ ps) a k cut = ap (λ ys. h (f a p) ++ ys) (runs_joined h both ps p k cut.1) ∙ both a p k cut.0 (before_end p k ps cut.1)

  pub runs_summed : (h : X → ℕ) → ((a p k : ℕ) → a < p → p < k → h (f a p) + h (f p k) ≡ h (f a k)) → (ps : List ℕ) (a k : ℕ) → Cutting a k ps → sum_by h (each_run f a k ps) ≡ h (f a k)
  runs_summed h both [] a k cut = omega (arith, sum_by-cons h (f a k) [])
  runs_summed h both (p ∷ ps) a k cut =
      omega (arith, sum_by-cons h (f a p) (each_run f p k ps), runs_summed h both ps p k cut.1, both a p k cut.0 (before_end p k ps cut.1))

  -- what holds of every run holds of each run of a cutting
  pub runs_all : (P : X → Type 0) → ((a b : ℕ) → P (f a b)) → (ps : List ℕ) (a k : ℕ) → AllByRecursion P (each_run f a k ps)
  runs_all P each [] a k = (each a k, tt)
  runs_all P each (p ∷ ps) a k = (each a p, runs_all P each ps p k)
