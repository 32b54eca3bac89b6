use Rattle.lines.proofs.Digits.{digits_spell}
use Rattle.lines.proofs.printed.refused_line.Goals as goal

pub returns-clause-digits : goal.returns-clause-digits
returns-clause-digits c = digits_spell
