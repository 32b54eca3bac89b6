-- The lines that spell a command.
use Rattle.std.specs.Prelude.{◌≡◌, ℕ, ◌+◌, ◌-◌, ◌*◌, ◌^◌, ◌<◌, ◌≤◌, true, List, [], ◌∷◌, ◌++◌, length, Some, None, codes, Option}
use Rattle.std.specs.Str.{all_ascii_digits}
use Rattle.lines.specs.declared.command.Command.{Command}
use Rattle.lines.specs.declared.command.Command.TheVariants.{Open, Split, SplitAll, Extend, Attach}

-- the number that digits spell, after those that spell n
abbrev pub spelled : ℕ → List ℕ → ℕ
spelled n [] = n
spelled n (d ∷ ds) = spelled (10 * n + (d - 48)) ds

-- ds is one to ten decimal digits that spell n, a number of 32 bits; zeros in front are digits like others
abbrev pub Numeral : ℕ → List ℕ → Type 0
Numeral n ds = (all_ascii_digits ds ≡ true) × (0 < length ds) × (length ds ≤ 10) × (spelled 0 ds ≡ n) × (n < 2 ^ 32)

-- the same of a glyph, which has 16 bits
abbrev pub GlyphNumeral : ℕ → List ℕ → Type 0
GlyphNumeral g ds = Numeral g ds × (g < 2 ^ 16)

-- bs is a line that spells a command: its letter, and then for each number one space and a numeral
abbrev pub Line : Command → List ℕ → Type 0
Line (Open vertex) bs = (ds : List ℕ) × Numeral vertex ds × (bs ≡ codes "O " ++ ds)
Line (Split place reach) bs = (ds : List ℕ) × (es : List ℕ) × Numeral place ds × Numeral reach es × (bs ≡ codes "S " ++ (ds ++ (codes " " ++ es)))
Line (SplitAll reach) bs = (ds : List ℕ) × Numeral reach ds × (bs ≡ codes "A " ++ ds)
Line Extend bs = bs ≡ codes "E"
Line (Attach mark base) bs = (ds : List ℕ) × (es : List ℕ) × GlyphNumeral mark ds × GlyphNumeral base es × (bs ≡ codes "Q " ++ (ds ++ (codes " " ++ es)))

-- the answer to a line is the one command that it spells, and none where it spells none
abbrev pub Reads : List ℕ → Option Command → Type 0
Reads bs (Some c) = Line c bs × ((d : Command) → Line d bs → d ≡ c)
Reads bs None = (c : Command) → Line c bs → ⊥
