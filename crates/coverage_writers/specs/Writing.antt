-- What a writer of Coverage tables makes of a list of glyphs, and what it leaves in a buffer.
use Rattle.std.specs.Prelude.{◌≡◌, ℕ, ◌+◌, ◌*◌, ◌≤◌, Bool, true, false, cond, ◌&&◌, List, [], ◌∷◌, ◌++◌, length, drop, Some, None, Ok, Option, nat_le, nat_lt}
use Rattle.layout.specs.Format.{read_coverage}

-- strictly ascending glyphs, the first of which is `low` at least
abbrev pub ascends : ℕ → List ℕ → Bool
ascends low [] = true
ascends low (g ∷ gs) = nat_le low g && (nat_lt g 65536 && ascends (g + 1) gs)

-- the lists that a writer takes: strictly ascending, at most 65,535 glyphs
abbrev pub listed : List ℕ → Bool
listed gs = ascends 0 gs && nat_lt (length gs) 65536

-- what a meaning has to be for a list that a writer takes: bytes, not longer than format 1's, that are read back as that list
abbrev pub Means : List ℕ → Option (List ℕ) → Type 0
Means gs None = ⊥
Means gs (Some bs) = (length bs ≤ 4 + 2 * length gs) × (read_coverage bs ≡ Ok gs)

-- the laws of a meaning: each list that a writer takes has such bytes, and no other list has any
pub record Lawful (meaning : List ℕ → Option (List ℕ)) : Type 0 where
  pub taken : (gs : List ℕ) → listed gs ≡ true → Means gs (meaning gs)
  pub declined : (gs : List ℕ) → listed gs ≡ false → meaning gs ≡ None

-- the length that a writer tells
abbrev pub length_of : Option (List ℕ) → ℕ
length_of None = 0
length_of (Some bs) = length bs

-- whether the buffer `old` takes the bytes
abbrev pub accepts : Option (List ℕ) → List ℕ → Bool
accepts None old = false
accepts (Some bs) old = nat_le (length bs) (length old)

-- the buffer after a write
abbrev pub written : Option (List ℕ) → List ℕ → List ℕ
written None old = old
written (Some bs) old = cond (nat_le (length bs) (length old)) (bs ++ drop (length bs) old) old
