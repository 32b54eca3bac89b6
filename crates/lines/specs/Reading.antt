-- How a line is read, from its first byte to its last.
use Rattle.std.specs.Prelude.{◌≡◌, ℕ, ◌^◌, Bool, cond, ◌&&◌, List, [], ◌∷◌, length, take, drop, Some, None, Ok, Err, Option, Result, ◌==◌, nat_le, nat_lt}
use Rattle.std.specs.Option.{option_map}
use Rattle.std.specs.Char.{is_ascii_digit}
use Rattle.std.specs.List.{prefix_len}
use Rattle.lines.specs.declared.command.Command.{Command}
use Rattle.lines.specs.declared.command.Command.TheVariants.{Open, Split, SplitAll, Extend, Attach}
use Rattle.lines.specs.Grammar.{spelled}

-- what was read, where a test passes
abbrev pub when : {X : Type 0} → Bool → X → Option X
when t x = cond t (Some x) None

-- what was read, and then what comes after it
infixr 20 ◌⟫◌
abbrev pub ◌⟫◌ : {X Y : Type 0} → Option X → (X → Option Y) → Option Y
None ⟫ next = None
(Some x) ⟫ next = next x

-- the number that digits spell
unfoldable pub numeral_of : List ℕ → Option ℕ
numeral_of ds = when (nat_lt 0 (length ds) && nat_le (length ds) 10 && nat_lt (spelled 0 ds) (2 ^ 32)) (spelled 0 ds)

-- after one space (byte 32), the number of all digits that come, and the bytes after them
unfoldable pub number_at : List ℕ → Option (ℕ × List ℕ)
number_at [] = None
number_at (b ∷ bs) = when (b == 32) bs ⟫ λ bs. numeral_of (take (prefix_len is_ascii_digit bs) bs) ⟫ λ n. Some (n, drop (prefix_len is_ascii_digit bs) bs)

-- the same of a glyph
abbrev pub glyph_at : List ℕ → Option (ℕ × List ℕ)
glyph_at bs = number_at bs ⟫ λ x. when (nat_lt x.0 (2 ^ 16)) x

-- what was read, where no byte is left
abbrev pub alone : ℕ × List ℕ → Option ℕ
alone x = when (length x.1 == 0) x.0

-- the number that ends a line
abbrev pub last_number : List ℕ → Option ℕ
last_number bs = number_at bs ⟫ alone

-- the glyph that ends a line
abbrev pub last_glyph : List ℕ → Option ℕ
last_glyph bs = glyph_at bs ⟫ alone

-- what a conversion gives of a number that was read: a value, or none where none was read or it is refused
abbrev pub Converts : {T E : Type 0} → (ℕ → Result T E → Type 0) → Option ℕ → Option T → Type 0
Converts gives None r = r ≡ None
Converts gives (Some n) (Some v) = gives n (Ok v)
Converts gives (Some n) None = (e : _) × gives n (Err e)

-- the same, with the bytes that are left after the number
abbrev pub ConvertsFront : {T E : Type 0} → (ℕ → Result T E → Type 0) → Option (ℕ × List ℕ) → Option (T × List ℕ) → Type 0
ConvertsFront gives None r = r ≡ None
ConvertsFront gives (Some x) (Some y) = gives x.0 (Ok y.0) × (y.1 ≡ x.1)
ConvertsFront gives (Some x) None = (e : _) × gives x.0 (Err e)

-- the command of a letter, O, S, A, E or Q, by the bytes after the letter
abbrev pub command_by : ℕ → List ℕ → Option Command
command_by letter bs =
    cond (letter == 79) (option_map Open (last_number bs))
    (cond (letter == 83) (number_at bs ⟫ λ x. option_map (Split x.0) (last_number x.1))
    (cond (letter == 65) (option_map SplitAll (last_number bs))
    (cond (letter == 69) (when (length bs == 0) Extend)
    (cond (letter == 81) (glyph_at bs ⟫ λ x. option_map (Attach x.0) (last_glyph x.1)) None))))

-- the command of a line
abbrev pub command_of : List ℕ → Option Command
command_of [] = None
command_of (b ∷ bs) = command_by b bs
