use Rattle.std.proofs.Common.{◌-◌, ap, ◌∙◌, arith}
use Rattle.serialize.specs.declared.object_file.LinkRecord.{LinkRecord}
use Rattle.serialize.specs.ObjectFile.{follows}
use Rattle.serialize.proofs.Order.{ask_last}
use Rattle.serialize.proofs.object_file.ObjectFile.is_in_order.Goals as goal

pub returns-else-i-eq0 : goal.returns-else-i-eq0
returns-else-i-eq0 c =
    c.follows.ensures
    ∙ (ap (λ (p : LinkRecord). follows p c.args.link) c.record.ensures ∙ ask_last c.args.self.bytes.now c.args.self.trailer (c.args.i - 1) c.args.i c.args.link (omega arith) c.requires.before)
