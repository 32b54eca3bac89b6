-- Ascending links, one after the other.
use Rattle.std.proofs.Common.{◌≡◌, ℕ, suc, ◌+◌, ◌<◌, ◌≤◌, Bool, true, ◌&&◌, leb, List, [], ◌∷◌, length, refl, arith}
use Rattle.std.proofs.lemmas.Bool.{le-leb, and_from}
use Rattle.serialize.specs.declared.link.Link.{Link}
use Rattle.serialize.specs.Objects.{link_at, Ascends}
use Rattle.serialize.specs.Width.{width_of}

-- the first link starts at p or later, and each other one behind the field of the one before
abbrev pub apart : ℕ → List Link → Bool
apart p [] = true
apart p (l ∷ ls) = leb p l.position && apart (l.position + width_of l.width) ls

apart_up : (q : ℕ) (ls : List Link) → Ascends ls → (0 < length ls → q ≤ (link_at ls 0).position) → apart q ls ≡ true
apart_up q [] up first = refl
apart_up q (l ∷ ls) up first =
    and_from (leb q l.position) (apart (l.position + width_of l.width) ls) (le-leb q l.position (first (omega arith)))
    (apart_up (l.position + width_of l.width) ls (λ i j h k. up (suc i) (suc j) (omega arith) (omega arith)) (λ h. up 0 1 (omega arith) (omega arith)))

pub ascending : (ls : List Link) → Ascends ls → apart 0 ls ≡ true
ascending ls up = apart_up 0 ls up (λ h. omega arith)
