-- The types of lookups.
use Rattle.std.specs.Prelude.{◌≡◌, ℕ, cond, Some, None, Option, Result, MatchResult, ◌==◌}
use Rattle.markbase.specs.declared.lookup_type.LookupType.{LookupType}
use Rattle.markbase.specs.declared.lookup_type.LookupType.TheVariants.{MarkToBase, Extension}
use Rattle.markbase.specs.declared.lookup_type.UnknownLookupType.{UnknownLookupType}

-- mark-to-base lookups have type 4, and type 9 where extensions stand before the subtables
unfoldable pub type_from : ℕ → Option LookupType
type_from w = cond (w == 4) (Some MarkToBase) (cond (w == 9) (Some Extension) None)

-- the answer is the type that a word names, or the word, which names none
abbrev pub Names : ℕ → Result LookupType UnknownLookupType → Type 0
Names w r = MatchResult r (λ kind. type_from w ≡ Some kind) (λ e. (type_from w ≡ None) × (e.0 ≡ w))
