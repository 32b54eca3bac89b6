use Rattle.std.proofs.Common.{rules}
use Rattle.std.proofs.lemmas.List.{take_rest}
use Rattle.lines.proofs.Spells.{reads}
use Rattle.lines.proofs.Steps.{command_by_lem}
use Rattle.lines.proofs.command.Command.read.Goals as goal

pub returns : goal.returns
returns c =
    let line = c.args.line.now in
    let e = command_by_lem line _ c.from.result c.with_letter.result (search rules) c.from.ensures (take_rest line 1) c.with_letter.ensures in
    record { value = e; reads = reads line c.with_letter.result e }
