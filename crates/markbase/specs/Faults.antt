-- A fault on its way up.
use Rattle.std.specs.Prelude.{ℕ, Ok, Err, Result}
use Rattle.refusal.specs.declared.Part.{Part}
use Rattle.fields.specs.declared.fault.Fault.{Fault}
use Rattle.markbase.specs.declared.fault.PartFault.{PartFault}

-- what was read of a part: the place of a fault is kept, and the part is added
abbrev pub in_part : {A : Type 0} → Part → Result A ℕ → Result A PartFault
in_part part (Ok a) = Ok a
in_part part (Err p) = Err record { part = part; place = p }

-- the same of an answer
abbrev pub placed : {A : Type 0} → Part → Result A Fault → Result A PartFault
placed part (Ok a) = Ok a
placed part (Err f) = Err record { part = part; place = f.place }

-- one part, and what its value makes of the others
infixr 10 ◌⟩◌
abbrev pub ◌⟩◌ : {A B : Type 0} → Result A PartFault → (A → Result B PartFault) → Result B PartFault
Ok a ⟩ next = next a
Err f ⟩ next = Err f
