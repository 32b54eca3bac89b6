-- A fault on its way up.
use Rattle.std.specs.Prelude.{ℕ, Ok, Err, Result}
use Rattle.refusal.specs.declared.Refusal.{Refusal}
use Rattle.refusal.specs.declared.Refusal.TheVariants as refusal
use Rattle.markbase.specs.declared.fault.PartFault.{PartFault}
use Rattle.lookups.specs.declared.fault.LookupFault.{LookupFault}
use Rattle.lookups.specs.declared.fault.LookupFault.TheVariants.{BrokenLookup, BrokenPart}

-- what was read of the subtable at this place: the part and the byte place of a fault are kept
abbrev pub placed : {A : Type 0} → ℕ → Result A PartFault → Result A LookupFault
placed subtable (Ok a) = Ok a
placed subtable (Err f) = Err (BrokenPart subtable f.part f.place)

-- the refusal of a lookup that cannot be read: its places are kept
abbrev pub refusal_of : LookupFault → Refusal
refusal_of (BrokenLookup p) = refusal.BrokenLookup p
refusal_of (BrokenPart i part p) = refusal.BrokenPart i part p
