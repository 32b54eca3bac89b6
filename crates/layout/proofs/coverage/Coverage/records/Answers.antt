use Rattle.std.proofs.Common.{◌∙◌, sym}
use Rattle.std.proofs.lemmas.List.{take_rest}
use Rattle.layout.proofs.Tables.{list_is, ranges_are}
use Rattle.layout.proofs.coverage.Coverage.records.Goals as goal

pub returns-then-from_be_bytes-eq1 : goal.returns-then-from_be_bytes-eq1
returns-then-from_be_bytes-eq1 c =
    let bs = c.args.self.now.bytes.now in
    let e = c.as_chunks.ensures in
    list_is bs c.args.self.now.sound c.as_chunks.result.0 (sym c.from_be_bytes.ensures ∙ c.if-from_be_bytes-eq1.true) (rw (take_rest bs 4) at e.front) (rw (take_rest bs 4) at e.front_len)

pub returns-else-from_be_bytes-eq1 : goal.returns-else-from_be_bytes-eq1
returns-else-from_be_bytes-eq1 c =
    let bs = c.args.self.now.bytes.now in
    let e = c.as_chunks-else-from_be_bytes-eq1.ensures in
    ranges_are bs c.args.self.now.sound c.as_chunks-else-from_be_bytes-eq1.result.0 (λ one. c.if-from_be_bytes-eq1.false (c.from_be_bytes.ensures ∙ one)) (rw (take_rest bs 4) at e.front) (rw (take_rest bs 4) at e.front_len)
