-- The widths of link fields.
use Rattle.std.specs.Prelude.{◌≡◌, ℕ, cond, Some, None, Option, Result, ◌==◌}
use Rattle.std.specs.Option.{ok_or}
use Rattle.serialize.specs.declared.link.LinkWidth.{LinkWidth}
use Rattle.serialize.specs.declared.link.UnknownWidth.{UnknownWidth}
use Rattle.serialize.specs.declared.link.LinkWidth.TheVariants.{Two, Three, Four}

-- how many bytes a field has
abbrev pub width_of : LinkWidth → ℕ
width_of Two = 2
width_of Three = 3
width_of Four = 4

-- the width of so many bytes: there are fields of two, three and four
abbrev pub width_from : ℕ → Option LinkWidth
width_from n = cond (n == 2) (Some Two) (cond (n == 3) (Some Three) (cond (n == 4) (Some Four) None))

-- what a number of bytes names: that width, or itself as one that no field has
abbrev pub Names : ℕ → Result LinkWidth UnknownWidth → Type 0
Names n r = r ≡ ok_or (width_from n) (record { 0 = n })
