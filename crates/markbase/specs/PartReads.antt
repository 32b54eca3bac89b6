-- What the answers of the readers of several parts say.
use Rattle.std.specs.Prelude.{◌≡◌, ℕ, length, Ok, Err, Result}
use Rattle.markbase.specs.declared.fault.PartFault.{PartFault}
use Rattle.markbase.specs.Values.{Contents}

-- how many marks and bases there are, or which part is broken where
abbrev pub Counts : Result Contents PartFault → Result (ℕ × ℕ) PartFault → Type 0
Counts (Ok c) r = r ≡ Ok (length c.marks, length c.bases)
Counts (Err f) r = r ≡ Err f
