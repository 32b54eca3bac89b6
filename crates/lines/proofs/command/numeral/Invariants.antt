use Rattle.std.proofs.Common.{◌≡◌, ◌^◌, ◌<◌, drop}
use Rattle.lines.specs.Grammar.{spelled}
use Rattle.lines.proofs.command.numeral.Given as goal

-- the digits that are left give the number, and those before give one that is small enough
abbrev pub invariant-loop-digit : goal.invariant-loop-digit
invariant-loop-digit l = (spelled l.value (drop l.digit-index l.digits) ≡ spelled 0 l.digits) × (l.value < 10 ^ l.digit-index)
