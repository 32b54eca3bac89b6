-- One step of reading a number or a command.
use Rattle.std.proofs.Common.{◌≡◌, ℕ, ◌<◌, ◌≤◌, List, [], ◌∷◌, length, get_or, take, drop, Some, None, Ok, Err, Option, Result, refl, ap, subst, arith}
use Rattle.std.proofs.lemmas.Bool.{ne_eqb}
use Rattle.std.specs.Char.{is_ascii_digit}
use Rattle.std.specs.List.{prefix_len}
use Rattle.std.specs.Result.{result_ok}
use Rattle.lines.specs.declared.command.Command.{Command}
use Rattle.lines.specs.Reading.{when, ◌⟫◌, numeral_of, number_at, command_by, command_of, Converts}

-- what is read after a space
abbrev pub after_space : List ℕ → Option (ℕ × List ℕ)
after_space bs = numeral_of (take (prefix_len is_ascii_digit bs) bs) ⟫ λ n. Some (n, drop (prefix_len is_ascii_digit bs) bs)

pub number_none : (bs : List ℕ) → length bs < 1 → number_at bs ≡ None
unfolding number_at
number_none [] h = refl
number_none (b ∷ bs) h = absurd (omega arith)

pub number_other : (bs : List ℕ) → (get_or bs 0 0 ≡ 32 → ⊥) → number_at bs ≡ None
unfolding number_at
number_other [] h = refl
number_other (b ∷ bs) h = ap (λ t. when t bs ⟫ after_space) (ne_eqb b 32 h)

pub number_space : (bs : List ℕ) → 1 ≤ length bs → get_or bs 0 0 ≡ 32 → number_at bs ≡ after_space (drop 1 bs)
unfolding number_at
number_space [] h e = absurd (omega arith)
number_space (b ∷ bs) h e = rw e

-- the same by the steps of the code: k digits, and then what is left
pub number_read : (t bs ds rest : List ℕ) (k : ℕ) (r : Option ℕ) → 1 ≤ length t → get_or t 0 0 ≡ 32 → bs ≡ drop 1 t → k ≡ prefix_len is_ascii_digit bs → ds ≡ take k bs → rest ≡ drop k bs → r ≡ numeral_of ds → number_at t ≡ (r ⟫ λ n. Some (n, rest))
number_read t bs ds rest k r h s e₁ e₂ e₃ e₄ e₅ = rw (e₅, e₃, e₄, e₂, e₁) (number_space t h s)

-- a number that was read is converted
pub converted : {T E : Type 0} (gives : ℕ → Result T E → Type 0) (n : ℕ) (s : Result T E) (r : Option T) → gives n s → result_ok s ≡ r → Converts gives (Some n) r
converted gives n (Ok v) r h e = subst (Converts gives (Some n)) e h
converted gives n (Err x) r h e = subst (Converts gives (Some n)) e (x, h)

-- a line that is not empty is read by its letter
pub command_by_lem : (bs rest : List ℕ) (letter : ℕ) (r : Option Command) → 1 ≤ length bs → letter ≡ get_or bs 0 0 → rest ≡ drop 1 bs → r ≡ command_by letter rest → r ≡ command_of bs
command_by_lem [] rest letter r h e₁ e₂ e₃ = absurd (omega arith)
command_by_lem (b ∷ bs) rest letter r h e₁ e₂ e₃ = rw (← e₁, ← e₂) e₃
