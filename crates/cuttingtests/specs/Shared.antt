-- What a sizing of classes that share things is about.
use Rattle.std.specs.Prelude.{◌≡◌, ℕ, ◌+◌, ◌-◌, ◌*◌, ◌<◌, ◌≤◌, Bool, false, List, length, slice_index, slice_index_or}
use Rattle.cutting.specs.SplitPoints.{Classes}
use Rattle.cuttingtests.specs.Sizes.{uses, sized, sized_monotone}
use Rattle.cuttingtests.specs.declared.Shared.{Shared}

-- the thing that a class uses, or the size of a thing
abbrev pub at : List ℕ → ℕ → ℕ
at xs i = slice_index xs i

-- the classes, each with the thing that it uses
abbrev pub classes : ℕ → List ℕ → List ℕ → Classes
classes base things sizes = record { count = length things; size = sized (at things) (at sizes) base; monotone = sized_monotone (at things) (at sizes) base }

-- the classes of a sizing
abbrev pub classes_of : Shared → Classes
classes_of s = classes s.base s.things.now s.sizes.now

-- there is a mark for each thing, and no more classes than can be summed up
pub record Ready (s : Shared) : Type 0 where
  pub marks : length s.marks.now ≡ length s.sizes.now
  pub few : length s.things.now < 65536

-- the marked things are those of the run start .. end, and the total is its size
pub record Run (base : ℕ) (things sizes : List ℕ) (marks : List Bool) (total start end : ℕ) : Type 0 where
  pub forward : start ≤ end
  pub sum : total ≡ sized (at things) (at sizes) base start end
  pub small : total ≤ base + (end - start) * 4294967295
  pub marked : (t : ℕ) → t < length marks → slice_index_or marks t false ≡ uses (at things) t start (end - start)

-- a sizing stands at the run a .. b
abbrev pub Running : Shared → ℕ → ℕ → Type 0
Running s a b = Run s.base s.things.now s.sizes.now s.marks.now s.total a b

-- the marks are those that were lent
abbrev pub Lent : Shared → Shared → Type 0
Lent s t = t.marks.ghost_name ≡ s.marks.ghost_name

-- what was lent on is what was lent
pub lent_on : (s t u : Shared) → Lent s t → Lent t u → Lent s u
lent_on s t u p q = cc
