-- What the code's cursor stands for, and what its answers say.
use Rattle.std.specs.Prelude.{◌≡◌, ℕ, true, false, length, Some, None, Ok, Err, Option, Result, ◌==◌}
use Rattle.layout.specs.declared.located.Located.{Located}
use Rattle.fields.specs.declared.fault.Fault.{Fault}
use Rattle.fields.specs.declared.cursor.Cursor.{Cursor}
use Rattle.fields.specs.Fields.{Rest}

-- what is left before a cursor
abbrev pub rest : Cursor → Rest
rest c = record { place = c.place; bytes = c.bytes.now; links = c.links.now }

-- the answer r, with the place p where its first field starts, and what it leaves are those of a reading
abbrev pub Gives : {A : Type 0} → Result (A × Rest) ℕ → ℕ → Result (Located A) Fault → Rest → Type 0
Gives read p (Ok l) s = (read ≡ Ok (l.value, s)) × (l.place ≡ p)
Gives read p (Err f) s = read ≡ Err f.place

-- the same for a single field: none if it is broken, and then it is the next one still
abbrev pub GivesSome : {A : Type 0} → Result (A × Rest) ℕ → Option A → Rest → Type 0
GivesSome read (Some a) s = read ≡ Ok (a, s)
GivesSome read None s = read ≡ Err s.place

-- whether a vertex ends here
abbrev pub Ends : {U : Type 0} → Rest → Result U Fault → Type 0
Ends s (Ok u) = (length s.bytes == 0) ≡ true
Ends s (Err f) = ((length s.bytes == 0) ≡ false) × (f.place ≡ s.place)

-- the answer r is what a whole vertex reads as
abbrev pub Reads : {A : Type 0} → Result A ℕ → Result A Fault → Type 0
Reads read (Ok a) = read ≡ Ok a
Reads read (Err f) = read ≡ Err f.place
