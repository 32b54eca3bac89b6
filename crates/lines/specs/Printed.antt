-- The lines that are printed, with the line feed (byte 10) that ends each.
use Rattle.std.specs.Prelude.{◌≡◌, ℕ, ◌^◌, ◌<◌, List, [], ◌∷◌, ◌++◌, Some, None, codes, decimal, Option, slice_index}
use Rattle.refusal.specs.declared.Refusal.{Refusal}
use Rattle.refusal.specs.Numbers.{numbers_of, spaced}
use Rattle.lines.specs.Grammar.{Numeral}

-- the answer to a line that spells no command
abbrev pub unknown_line : List ℕ
unknown_line = codes "?" ++ (10 ∷ [])

-- the answer to a call that declined: its echo, and the numbers of the refusal
abbrev pub refused_line : List ℕ → Refusal → List ℕ
refused_line echo r = echo ++ (codes " refused " ++ (spaced (numbers_of r) ++ (10 ∷ [])))

-- the answer to a call that gave a number: its echo, and the number
abbrev pub done_line : List ℕ → ℕ → List ℕ
done_line echo n = echo ++ (codes " done " ++ (decimal n ++ (10 ∷ [])))

-- an anchor: its number, or a dash where it is null
abbrev pub anchor_text : Option ℕ → List ℕ
anchor_text (Some n) = decimal n
anchor_text None = codes "-"

-- the answer to a call that found a hit: its echo, and both anchors
abbrev pub hit_line : List ℕ → Option ℕ → Option ℕ → List ℕ
hit_line echo mark base = echo ++ (codes " done " ++ (anchor_text mark ++ (codes " " ++ (anchor_text base ++ (10 ∷ [])))))

-- the answer to a call that found none
abbrev pub none_line : List ℕ → List ℕ
none_line echo = echo ++ (codes " none" ++ (10 ∷ []))

-- the decimal digits of a number of 32 bits are a numeral that spells it, and a zero in front stands alone
abbrev pub DigitsSpell : Type 0
DigitsSpell = (n : ℕ) → n < 2 ^ 32 → Numeral n (decimal n) × (slice_index (decimal n) 0 ≡ 48 → decimal n ≡ 48 ∷ [])
