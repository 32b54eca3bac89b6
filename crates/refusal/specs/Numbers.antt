-- The numbers by which a refusal is reported.
use Rattle.std.specs.Prelude.{ℕ, List, [], ◌∷◌, ◌++◌, decimal}
use Rattle.std.specs.List.{flat_map}
use Rattle.refusal.specs.declared.Shortage.{Shortage}
use Rattle.refusal.specs.declared.Shortage.TheVariants.{Vertices, Links, Bytes, Lists}
use Rattle.refusal.specs.declared.Part.{Part}
use Rattle.refusal.specs.declared.Part.TheVariants.{Extension, Subtable, MarkCoverage, BaseCoverage, MarkArray, BaseArray}
use Rattle.refusal.specs.declared.Refusal.{Refusal}
use Rattle.refusal.specs.declared.Refusal.TheVariants.{BadFile, FileTooLarge, BadLink, LookupOpen, NoLookup, BrokenLookup, BrokenPart, SharedPart, NothingOpen, NoSubtable, BadReach, ClassTooLarge, NoRoom, AlreadyExtended}

-- what is short: vertices before links before bytes before lists
abbrev pub shortage_number : Shortage → ℕ
shortage_number Vertices = 0
shortage_number Links = 1
shortage_number Bytes = 2
shortage_number Lists = 3

-- a part of a subtable, in reading order
abbrev pub part_number : Part → ℕ
part_number Extension = 0
part_number Subtable = 1
part_number MarkCoverage = 2
part_number BaseCoverage = 3
part_number MarkArray = 4
part_number BaseArray = 5

-- a cause's number
abbrev pub number_of : Refusal → ℕ
number_of BadFile = 1
number_of (FileTooLarge s) = 2
number_of (BadLink r) = 3
number_of (LookupOpen l) = 4
number_of NoLookup = 5
number_of (BrokenLookup p) = 6
number_of (BrokenPart t p b) = 7
number_of (SharedPart t p) = 8
number_of NothingOpen = 9
number_of (NoSubtable n) = 10
number_of (BadReach r) = 11
number_of (ClassTooLarge t c) = 12
number_of (NoRoom s) = 13
number_of AlreadyExtended = 14

-- the values that come with it
abbrev pub values_of : Refusal → List ℕ
values_of BadFile = []
values_of (FileTooLarge s) = shortage_number s ∷ []
values_of (BadLink r) = r ∷ []
values_of (LookupOpen l) = l ∷ []
values_of NoLookup = []
values_of (BrokenLookup p) = p ∷ []
values_of (BrokenPart t p b) = t ∷ part_number p ∷ b ∷ []
values_of (SharedPart t p) = t ∷ part_number p ∷ []
values_of NothingOpen = []
values_of (NoSubtable n) = n ∷ []
values_of (BadReach r) = r ∷ []
values_of (ClassTooLarge t c) = t ∷ c ∷ []
values_of (NoRoom s) = shortage_number s ∷ []
values_of AlreadyExtended = []

-- all numbers of a refusal, in the order in which they are printed
abbrev pub numbers_of : Refusal → List ℕ
numbers_of r = number_of r ∷ values_of r

-- numbers in decimal digits, with single spaces (byte 32) between
abbrev pub spaced : List ℕ → List ℕ
spaced [] = []
spaced (n ∷ ns) = decimal n ++ flat_map (λ m. 32 ∷ decimal m) ns
