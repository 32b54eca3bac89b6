-- A lookup's own fields.
use Rattle.std.specs.Prelude.{ℕ, cond, List, length, is_some, Ok, Err, Result, ◌==◌, bit_and}
use Rattle.std.specs.Option.{unwrap_or}
use Rattle.serialize.specs.declared.link.LinkWidth.TheVariants.{Two}
use Rattle.fields.specs.Fields.{Reader, word, offset, allowed, give, times, ◌⟫◌}
use Rattle.markbase.specs.declared.lookup_type.LookupType.{LookupType}
use Rattle.markbase.specs.declared.lookup_type.LookupType.TheVariants.{MarkToBase}
use Rattle.markbase.specs.LookupTypes.{type_from}
use Rattle.lookups.specs.declared.lookup.LookupHead.{LookupHead}

-- the values of the fields: the vertices that the offsets lead to, and at most one mark filtering set
pub record Fields : Type 0 where
  pub kind : LookupType
  pub flag : ℕ
  pub offsets : List ℕ
  pub filter : List ℕ

-- how many words follow the offsets: one if the flag has the bit 0x0010
abbrev pub filters : ℕ → ℕ
filters flag = cond (bit_and flag 16 == 0) 0 1

-- type 4 or 9, flag, count, as many offsets, and the mark filtering set
abbrev pub lookup : Reader Fields
lookup =
    allowed (λ w. is_some (type_from w)) ⟫ λ kind. word ⟫ λ flag. word ⟫ λ count. times count (offset Two) ⟫ λ offsets. times (filters flag) word ⟫ λ filter.
    give record { kind = unwrap_or (type_from kind) MarkToBase; flag = flag; offsets = offsets; filter = filter }

-- the type, the flag and the number of subtables
abbrev pub head_of : Result Fields ℕ → Result LookupHead ℕ
head_of (Ok l) = Ok record { kind = l.kind; flag = l.flag; count = length l.offsets }
head_of (Err p) = Err p
