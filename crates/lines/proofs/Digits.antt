-- Decimal digits and the numbers that they spell.
use Rattle.std.proofs.Common.{◌≡◌, ℕ, ◌<◌, Bool, true, false, List, [], ◌∷◌, length, get_or, take, refl, inl, inr, one-add, arith, rules}
use Rattle.std.proofs.lemmas.Fmt.{decimal_digit, decimal_nonempty, first_decimal, length-decimal-le, digits_decimal, digits_value-decimal}
use Rattle.std.proofs.lemmas.Str.Parse.{IsNumeralModel, numerals_by_fold, tells_all_ascii_digits, digit_at}
use Rattle.std.proofs.lemmas.Bool.{cases_lt}
use Rattle.std.specs.Int.{IsInRange}
use Rattle.std.specs.Char.{is_ascii_digit}
use Rattle.std.specs.List.{prefix_len}
use Rattle.std.specs.Str.{all_ascii_digits}
use Rattle.lines.specs.Grammar.{spelled}
use Rattle.lines.specs.Printed.{DigitsSpell}

-- `all_digits` and `spelled` are the shelf's digits and their value
own : IsNumeralModel (λ ds. all_ascii_digits ds ≡ true) (spelled 0)
own = numerals_by_fold _ tells_all_ascii_digits spelled (search rules)

pub digit_in : (ds : List ℕ) (i : ℕ) → all_ascii_digits ds ≡ true → i < length ds → IsInRange 48 57 (get_or ds i 0)
digit_in ds i h l = digit_at ds i (own.to ds h) l

-- the digits at the front are digits
pub front_digits : (bs : List ℕ) → all_ascii_digits (take (prefix_len is_ascii_digit bs) bs) ≡ true
front_digits [] = refl
front_digits (b ∷ bs) = go (is_ascii_digit b) refl (front_digits bs)
  where
    go : (t : Bool) → is_ascii_digit b ≡ t → all_ascii_digits (take (prefix_len is_ascii_digit bs) bs) ≡ true → all_ascii_digits (take (prefix_len is_ascii_digit (b ∷ bs)) (b ∷ bs)) ≡ true
    go true e later = simp (e, one-add) later
    go false e later = simp e

-- what is printed of a number spells it
pub digits_spell : DigitsSpell
digits_spell n h = (
  (digits_decimal own n (omega arith), decimal_nonempty n (omega arith), length-decimal-le 10 n (omega arith) (omega arith) (omega arith), digits_value-decimal own n (omega arith), h),
  λ zero. elim (cases_lt 0 n) [ inl some ↦ absurd (omega (arith, first_decimal n some (omega arith))) | inr none ↦ let z : n ≡ 0 = omega arith in rw z (decimal_digit 0 (omega arith)) ],
)
