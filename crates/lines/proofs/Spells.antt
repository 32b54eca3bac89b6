-- A line is read as a command just where it spells that command, so it spells at most one.
use Rattle.std.proofs.Common.{◌≡◌, ℕ, ◌^◌, ◌<◌, Bool, true, false, cond, eqb, ltb, ◌⊎◌, List, [], ◌∷◌, ◌++◌, length, take, drop, Some, None, Option, Result, sym, refl, ap, ◌∙◌, subst, inl, inr, one-add, arith}
use Rattle.std.proofs.lemmas.List.{append-nil, take-append-drop, take_at, drop_at, nil_from_length}
use Rattle.std.proofs.lemmas.Bool.{and_parts, eqb-true, lt-ltb, ltb-true, leb-true}
use Rattle.std.proofs.lemmas.Bool.Decides.{nat_tests}
use Rattle.std.specs.declared.num.TryFromIntError.{TryFromIntError}
use Rattle.std.specs.Char.{is_ascii_digit}
use Rattle.std.specs.Option.{option_map}
use Rattle.std.specs.List.{prefix_len}
use Rattle.std.specs.Result.{OkIff}
use Rattle.std.specs.Str.{all_ascii_digits}
use Rattle.lines.specs.declared.command.Command.{Command}
use Rattle.lines.specs.declared.command.Command.TheVariants.{Open, Split, SplitAll, Extend, Attach}
use Rattle.lines.specs.Grammar.{spelled, Numeral, GlyphNumeral, Line, Reads}
use Rattle.lines.specs.Reading.{when, ◌⟫◌, numeral_of, number_at, glyph_at, alone, last_number, command_of, Converts, ConvertsFront}
use Rattle.lines.proofs.Digits.{front_digits}
use Rattle.lines.proofs.Steps.{after_space}

-- what came of a test, of two steps and of a change
when_some : {X : Type 0} (t : Bool) (x y : X) → when t x ≡ Some y → (t ≡ true) × (x ≡ y)
when_some true x y e = (refl, cc)
when_some false x y e = absurd (grind arith)

then_some : {X Y : Type 0} (o : Option X) (next : X → Option Y) (y : Y) → (o ⟫ next) ≡ Some y → (x : X) × (o ≡ Some x) × (next x ≡ Some y)
then_some None next y e = absurd (grind arith)
then_some (Some x) next y e = (x, refl, e)

mapped_some : {X Y : Type 0} (f : X → Y) (o : Option X) (y : Y) → option_map f o ≡ Some y → (x : X) × (o ≡ Some x) × (f x ≡ y)
mapped_some f None y e = absurd (grind arith)
mapped_some f (Some x) y e = (x, refl, cc)

cond_some : {X : Type 0} (t : Bool) (o p : Option X) (x : X) → cond t o p ≡ Some x → ((t ≡ true) × (o ≡ Some x)) ⊎ (p ≡ Some x)
cond_some true o p x e = inl (refl, e)
cond_some false o p x e = inr e

-- digits are read to their end
leading_digits : (ds rest : List ℕ) → all_ascii_digits ds ≡ true → prefix_len is_ascii_digit rest ≡ 0 → length ds ≡ prefix_len is_ascii_digit (ds ++ rest)
leading_digits [] rest h stop = sym stop
leading_digits (d ∷ ds) rest h stop =
    let p = and_parts (is_ascii_digit d) (all_ascii_digits ds) h in
    let later = leading_digits ds rest p.1 stop in
    simp (p.0, one-add, ← later)

numeral_is : (n : ℕ) (ds : List ℕ) → Numeral n ds → numeral_of ds ≡ Some n
unfolding numeral_of
numeral_is n ds h = grind (arith, nat_tests)

is_numeral : (n : ℕ) (ds : List ℕ) → all_ascii_digits ds ≡ true → numeral_of ds ≡ Some n → Numeral n ds
unfolding numeral_of
is_numeral n ds all e =
    let p = when_some _ (spelled 0 ds) n e in
    let q = and_parts _ _ p.0 in
    let r = and_parts _ _ q.0 in
    (all, ltb-true _ _ r.0, leb-true _ _ r.1, p.1, subst (λ k. k < 2 ^ 32) p.1 (ltb-true _ _ q.1))

-- a space and a numeral are read as the number, where no digit follows
number_is : (n : ℕ) (ds rest : List ℕ) → Numeral n ds → prefix_len is_ascii_digit rest ≡ 0 → number_at (32 ∷ (ds ++ rest)) ≡ Some (n, rest)
unfolding number_at
number_is n ds rest h stop =
    let l = leading_digits ds rest h.0 stop in
    rw (← l, take_at ds rest (length ds) refl, drop_at ds rest (length ds) refl, numeral_is n ds h)

is_number : (bs : List ℕ) (x : ℕ × List ℕ) → number_at bs ≡ Some x → (ds : List ℕ) × Numeral x.0 ds × (bs ≡ 32 ∷ (ds ++ x.1))
unfolding number_at
is_number [] x e = absurd (grind arith)
is_number (b ∷ bs) x e =
    let p = then_some (when (eqb b 32) bs) after_space x e in
    let q = when_some (eqb b 32) bs p.0 p.1 in
    let k = prefix_len is_ascii_digit bs in
    let e' : after_space bs ≡ Some x = ap after_space q.1 ∙ p.2 in
    let r = then_some (numeral_of (take k bs)) (λ n. Some (n, drop k bs)) x e' in
    let same : (r.0, drop k bs) ≡ x = cc in
    let b-is = eqb-true b 32 q.0 in
    let whole = take-append-drop k bs in
    (take k bs, subst (λ m. Numeral m (take k bs)) (ap (λ p. p.0) same) (is_numeral r.0 (take k bs) (front_digits bs) r.1), cc)

-- a number that was read has 32 bits, so a conversion to them refuses none
abbrev To32 : ℕ → Result ℕ TryFromIntError → Type 0
To32 n r = OkIff r (n < 2 ^ 32) n

pub none_at : (bs : List ℕ) → ConvertsFront To32 (number_at bs) None → number_at bs ≡ None
none_at bs = go (number_at bs) refl
  where
    go : (o : Option (ℕ × List ℕ)) → number_at bs ≡ o → ConvertsFront To32 o None → o ≡ None
    go None e h = refl
    go (Some x) e h = absurd (h.1 (is_number bs x e).1.4)

pub none_last : (bs : List ℕ) → Converts To32 (last_number bs) None → last_number bs ≡ None
none_last bs = go (last_number bs) refl
  where
    go : (o : Option ℕ) → last_number bs ≡ o → Converts To32 o None → o ≡ None
    go None e h = refl
    go (Some n) e h =
        let p = then_some (number_at bs) alone n e in
        let q = when_some _ p.0.0 n p.2 in
        absurd (h.1 (subst (λ k. k < 2 ^ 32) q.1 (is_number bs p.0 p.1).1.4))

glyph_is : (g : ℕ) (ds rest : List ℕ) → GlyphNumeral g ds → prefix_len is_ascii_digit rest ≡ 0 → glyph_at (32 ∷ (ds ++ rest)) ≡ Some (g, rest)
glyph_is g ds rest h stop = rw (number_is g ds rest h.0 stop, lt-ltb g (2 ^ 16) h.1)

is_glyph : (bs : List ℕ) (x : ℕ × List ℕ) → glyph_at bs ≡ Some x → (ds : List ℕ) × GlyphNumeral x.0 ds × (bs ≡ 32 ∷ (ds ++ x.1))
is_glyph bs x e =
    let p = then_some (number_at bs) (λ y. when (ltb y.0 (2 ^ 16)) y) x e in
    let q = when_some (ltb p.0.0 (2 ^ 16)) p.0 x p.2 in
    let r = is_number bs x (p.1 ∙ ap Some q.1) in
    (r.0, (r.1, subst (λ y. y.0 < 2 ^ 16) q.1 (ltb-true p.0.0 (2 ^ 16) q.0)), r.2)

-- `read` finds, after a space, just the numerals of which P holds
record Finds (P : ℕ → List ℕ → Type 0) (read : List ℕ → Option (ℕ × List ℕ)) : Type 0 where
  to : (n : ℕ) (ds rest : List ℕ) → P n ds → prefix_len is_ascii_digit rest ≡ 0 → read (32 ∷ (ds ++ rest)) ≡ Some (n, rest)
  from : (bs : List ℕ) (x : ℕ × List ℕ) → read bs ≡ Some x → (ds : List ℕ) × P x.0 ds × (bs ≡ 32 ∷ (ds ++ x.1))

numbers : Finds Numeral number_at
numbers = record { to = number_is; from = is_number }

glyphs : Finds GlyphNumeral glyph_at
glyphs = record { to = glyph_is; from = is_glyph }

alone_some : (x : ℕ × List ℕ) (n : ℕ) → alone x ≡ Some n → x ≡ (n, [])
alone_some x n e =
    let p = when_some (eqb (length x.1) 0) x.0 n e in
    let q = nil_from_length x.1 (eqb-true (length x.1) 0 p.0) in
    let pair : (x.0, x.1) ≡ (n, []) = cc in
    pair

module _ {P : ℕ → List ℕ → Type 0} {read : List ℕ → Option (ℕ × List ℕ)} (f : Finds P read) where
  last_to : (n : ℕ) (ds : List ℕ) → P n ds → (read (32 ∷ ds) ⟫ alone) ≡ Some n
  last_to n ds h = let e = simp append-nil at (f.to n ds [] h refl) in rw e

  last_from : (bs : List ℕ) (n : ℕ) → (read bs ⟫ alone) ≡ Some n → (ds : List ℕ) × P n ds × (bs ≡ 32 ∷ ds)
  last_from bs n e =
      let p = then_some (read bs) alone n e in
      let q = f.from bs (n, []) (p.1 ∙ ap Some (alone_some p.0 n p.2)) in
      (q.0, q.1, simp append-nil at q.2)

  module _ (made : ℕ → ℕ → Command) where
    abbrev two : List ℕ → Option Command
    two bs = read bs ⟫ λ x. option_map (made x.0) (read x.1 ⟫ alone)

    two_to : (m n : ℕ) (ds es : List ℕ) → P m ds → P n es → two (32 ∷ (ds ++ (32 ∷ es))) ≡ Some (made m n)
    two_to m n ds es h k = rw (f.to m ds (32 ∷ es) h refl, last_to n es k)

    two_from : (bs : List ℕ) (c : Command) → two bs ≡ Some c → (m : ℕ) × (n : ℕ) × (ds : List ℕ) × (es : List ℕ) × P m ds × P n es × (bs ≡ 32 ∷ (ds ++ (32 ∷ es))) × (made m n ≡ c)
    two_from bs c e =
        let p = then_some (read bs) (λ x. option_map (made x.0) (read x.1 ⟫ alone)) c e in
        let q = mapped_some (made p.0.0) (read p.0.1 ⟫ alone) c p.2 in
        let r = f.from bs p.0 p.1 in
        let s = last_from p.0.1 q.0 q.1 in
        (p.0.0, q.0, r.0, s.0, r.1, s.1, cc, q.2)

-- what a line spells is what is read
read_as : (c : Command) (bs : List ℕ) → Line c bs → command_of bs ≡ Some c
read_as (Open v) bs l = rw l.2 (ap (option_map Open) (last_to numbers v l.0 l.1))
read_as (Split p r) bs l = rw l.4 (two_to numbers Split p r l.0 l.1 l.2 l.3)
read_as (SplitAll r) bs l = rw l.2 (ap (option_map SplitAll) (last_to numbers r l.0 l.1))
read_as Extend bs l = rw l
read_as (Attach m b) bs l = rw l.4 (two_to glyphs Attach m b l.0 l.1 l.2 l.3)

-- and what is read is spelled
module _ (b letter : ℕ) (bs : List ℕ) (c : Command) (t : eqb b letter ≡ true) where
  from_one : (made : ℕ → Command) → ((n : ℕ) (ds : List ℕ) → Numeral n ds → Line (made n) (letter ∷ 32 ∷ ds)) → option_map made (last_number bs) ≡ Some c → Line c (b ∷ bs)
  from_one made line e =
      let p = mapped_some made (last_number bs) c e in
      let q = last_from numbers bs p.0 p.1 in
      let l = eqb-true b letter t in
      let same : letter ∷ 32 ∷ q.0 ≡ b ∷ bs = cc in
      subst (λ d. Line d (b ∷ bs)) p.2 (subst (Line (made p.0)) same (line p.0 q.0 q.1))

  from_two : {P : ℕ → List ℕ → Type 0} {read : List ℕ → Option (ℕ × List ℕ)} (f : Finds P read) (made : ℕ → ℕ → Command) → ((m n : ℕ) (ds es : List ℕ) → P m ds → P n es → Line (made m n) (letter ∷ 32 ∷ (ds ++ (32 ∷ es)))) → two f made bs ≡ Some c → Line c (b ∷ bs)
  from_two f made line e =
      let p = two_from f made bs c e in
      let l = eqb-true b letter t in
      let same : letter ∷ 32 ∷ (p.2 ++ (32 ∷ p.3)) ≡ b ∷ bs = cc in
      subst (λ d. Line d (b ∷ bs)) p.7 (subst (Line (made p.0 p.1)) same (line p.0 p.1 p.2 p.3 p.4 p.5))

from_extend : (b : ℕ) (bs : List ℕ) (c : Command) → eqb b 69 ≡ true → when (eqb (length bs) 0) Extend ≡ Some c → Line c (b ∷ bs)
from_extend b bs c t e =
    let p = when_some (eqb (length bs) 0) Extend c e in
    let none = nil_from_length bs (eqb-true (length bs) 0 p.0) in
    let letter = eqb-true b 69 t in
    subst (λ d. Line d (b ∷ bs)) p.1 (cc)

spelled_as : (bs : List ℕ) (c : Command) → command_of bs ≡ Some c → Line c bs
spelled_as [] c e = absurd (grind arith)
spelled_as (b ∷ bs) c e =
    elim (cond_some (eqb b 79) _ _ c e) [
      | inl p ↦ from_one b 79 bs c p.0 Open (λ n ds h. (ds, h, refl)) p.1
      | inr e ↦
          elim (cond_some (eqb b 83) _ _ c e) [
            | inl p ↦ from_two b 83 bs c p.0 numbers Split (λ m n ds es h k. (ds, es, h, k, refl)) p.1
            | inr e ↦
                elim (cond_some (eqb b 65) _ _ c e) [
                  | inl p ↦ from_one b 65 bs c p.0 SplitAll (λ n ds h. (ds, h, refl)) p.1
                  | inr e ↦
                      elim (cond_some (eqb b 69) _ _ c e) [
                        | inl p ↦ from_extend b bs c p.0 p.1
                        | inr e ↦
                            elim (cond_some (eqb b 81) _ _ c e) [ inl p ↦ from_two b 81 bs c p.0 glyphs Attach (λ m n ds es h k. (ds, es, h, k, refl)) p.1 | inr e ↦ absurd (grind arith) ]
                      ]
                ]
          ]
    ]

pub reads : (bs : List ℕ) (r : Option Command) → r ≡ command_of bs → Reads bs r
reads bs (Some c) e = (spelled_as bs c (sym e), λ d l. let f = read_as d bs l in cc)
reads bs None e = λ c l. let f = read_as c bs l in grind arith
