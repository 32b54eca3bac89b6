use Rattle.std.proofs.Common.{arith}
use Rattle.layout.proofs.Tables.{count_ranged}
use Rattle.layout.proofs.coverage.Coverage.count.Goals as goal

pub returns-in-Ranges-len1-up : goal.returns-in-Ranges-len1-up
returns-in-Ranges-len1-up c =
    let r = c.from.ensures in
    omega (arith, r.0, r.1, r.2, count_ranged c.args.self.now.bytes.now c.args.self.now.sound c.in-Ranges-len1-up.field-0 c.in-Ranges-len1-up.ensures c.in-Ranges-len1-up.len_at_least)
