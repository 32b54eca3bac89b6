-- How many runs there are, glyph by glyph.
use Rattle.std.specs.Prelude.{◌≡◌, ℕ, suc, ◌+◌, ◌<◌, ◌≤◌, Bool, true, false, List, [], ◌∷◌, length, drop, ◌==◌, refl, slice_index}
use Rattle.std.proofs.Common.{sym, ap, ◌∙◌, arith, not, ⊎_elim, eqb-true}
use Rattle.std.proofs.lemmas.List.{drop_more}
use Rattle.std.proofs.lemmas.Bool.{eqb-false, cases_eq}
use mir.Val.{bool_byte}
use Rattle.coverage_writers.specs.Formats.{runs_from}
use Rattle.coverage_writers.specs.WriterLaws.{runs_new, runs_same}

-- there are as many, wherever the first of them begins
pub runs_length : (gs : List ℕ) (s t e : ℕ) → length (runs_from s e gs) ≡ length (runs_from t e gs)
runs_length [] s t e = refl
runs_length (g ∷ gs) s t e =
    ⊎_elim (λ h. ap length (runs_same s e g gs h) ∙ runs_length gs s t g ∙ sym (ap length (runs_same t e g gs h)))
    (λ h. ap length (runs_new s e g gs h) ∙ sym (ap length (runs_new t e g gs h)))
    (cases_eq g (e + 1))

pub byte_small : (b : Bool) → bool_byte b ≤ 1
byte_small true = omega arith
byte_small false = omega arith

-- one more where b is false
one_if_not : (b : Bool) (x y n : ℕ) → n ≡ bool_byte (not b) → (b ≡ true → x ≡ y) → (b ≡ false → x ≡ suc y) → x ≡ n + y
one_if_not true x y n e same new = omega (arith, e, same refl)
one_if_not false x y n e same new = omega (arith, e, new refl)

-- the next glyph ends the run up to e, or goes on with it
pub counted : (rest : List ℕ) (k e n : ℕ) → k < length rest → n ≡ bool_byte (not (slice_index rest k == e + 1))
    → length (runs_from e e (drop k rest)) ≡ n + length (runs_from (slice_index rest k) (slice_index rest k) (drop (k + 1) rest))
counted rest k e n on is =
    let g = slice_index rest k in
    let next = ap (λ l. length (runs_from e e l)) (drop_more rest k 0 on) in
    one_if_not (g == e + 1) _ _ n is
    (λ h. next ∙ ap length (runs_same e e g (drop (k + 1) rest) (eqb-true g (e + 1) h)) ∙ runs_length (drop (k + 1) rest) e g g)
    (λ h. next ∙ ap length (runs_new e e g (drop (k + 1) rest) (eqb-false g (e + 1) h)))
