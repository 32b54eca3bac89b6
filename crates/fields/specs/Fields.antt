-- Fields of a vertex: what each says, and when it is broken.
use Rattle.std.specs.Prelude.{ℕ, zero, suc, ◌+◌, ◌*◌, Bool, true, cond, ◌&&◌, List, [], ◌∷◌, length, drop, Some, None, Ok, Err, Option, Result, ◌==◌, nat_eq, nat_le, slice_index}
use Rattle.serialize.specs.declared.link.Link.{Link}
use Rattle.serialize.specs.declared.link.LinkWidth.{LinkWidth}
use Rattle.serialize.specs.declared.link.LinkWidth.TheVariants.{Two}
use Rattle.serialize.specs.Width.{width_of}

-- what is left of a vertex: the place of the next field, the bytes from there on, and the links that start from there on
pub record Rest : Type 0 where
  pub place : ℕ
  pub bytes : List ℕ
  pub links : List Link

-- a vertex of which nothing has been read
abbrev pub start : List ℕ → List Link → Rest
start bs ls = record { place = 0; bytes = bs; links = ls }

-- a value and what is left then, or the byte place of a broken field
abbrev pub Reader : Type 0 → Type 0
Reader A = Rest → Result (A × Rest) ℕ

-- the word at the front, the high byte first
abbrev pub front : List ℕ → ℕ
front bs = slice_index bs 0 * 256 + slice_index bs 1

-- no link starts before e
abbrev pub free : ℕ → List Link → Bool
free e [] = true
free e (l ∷ ls) = nat_le e l.position

-- the vertex goes on for w bytes, and no link starts in them
abbrev pub bare : ℕ → Rest → Bool
bare w s = nat_le w (length s.bytes) && free (s.place + w) s.links

-- past w bytes, with these links left
abbrev pub past : ℕ → List Link → Rest → Rest
past w ls s = record { place = s.place + w; bytes = drop w s.bytes; links = ls }

-- a word: two bytes in which no link starts
unfoldable pub word : Reader ℕ
word s = cond (bare 2 s) (Ok (front s.bytes, past 2 s.links s)) (Err s.place)

-- the link of an offset field stands right here, and has the field's width
abbrev pub belongs : LinkWidth → Rest → Link → Bool
belongs w s l = nat_le (width_of w) (length s.bytes) && (l.position == s.place && width_of l.width == width_of w)

-- an offset field, with these links left: the next of them must be its own
abbrev pub linked : LinkWidth → Rest → List Link → Result (ℕ × Rest) ℕ
linked w s [] = Err s.place
linked w s (l ∷ ls) = cond (belongs w s l) (Ok (l.child, past (width_of w) ls s)) (Err s.place)

-- an offset: the vertex that its link points at
unfoldable pub offset : LinkWidth → Reader ℕ
offset w s = linked w s s.links

-- one reading, and what its value makes of the rest
abbrev pub then : {A B : Type 0} → Result (A × Rest) ℕ → (A → Reader B) → Result (B × Rest) ℕ
then (Ok r) next = next r.0 r.1
then (Err p) next = Err p

-- one reader after the other
infixr 10 ◌⟫◌
abbrev pub ◌⟫◌ : {A B : Type 0} → Reader A → (A → Reader B) → Reader B
(r ⟫ next) s = then (r s) next

-- a value that no field gives
abbrev pub give : {A : Type 0} → A → Reader A
give a s = Ok (a, s)

-- a word that is allowed
abbrev pub allowed : (ℕ → Bool) → Reader ℕ
allowed ok s = then (word s) (λ w s'. cond (ok w) (Ok (w, s')) (Err s.place))

-- an offset of two bytes, or a null: no link, and zero bytes
unfoldable pub nullable : Reader (Option ℕ)
nullable s = cond (bare 2 s) (then (allowed (nat_eq 0) s) (λ w. give None)) (then (offset Two s) (λ child. give (Some child)))

-- no byte follows the last field
abbrev pub ended : {A : Type 0} → Result (A × Rest) ℕ → Result A ℕ
ended (Ok r) = cond (length r.1.bytes == 0) (Ok r.0) (Err r.1.place)
ended (Err p) = Err p

-- a whole vertex
abbrev pub whole : {A : Type 0} → Reader A → List ℕ → List Link → Result A ℕ
whole r bs ls = ended (r (start bs ls))

-- one value more, before the others
abbrev pub also : {A : Type 0} → A → Result (List A × Rest) ℕ → Result (List A × Rest) ℕ
also a (Ok r) = Ok (a ∷ r.0, r.1)
also a (Err p) = Err p

-- n times the same
abbrev pub times : {A : Type 0} → ℕ → Reader A → Reader (List A)
times zero r s = Ok ([], s)
times (suc n) r s = then (r s) (λ a s'. also a (times n r s'))

-- the links that start at p or after it, of ascending ones
abbrev pub from : ℕ → List Link → List Link
from p [] = []
from p (l ∷ ls) = cond (nat_le p l.position) (l ∷ ls) (from p ls)

-- a vertex from place p on
abbrev pub seek : ℕ → List ℕ → List Link → Rest
seek p bs ls = record { place = p; bytes = drop p bs; links = from p ls }
