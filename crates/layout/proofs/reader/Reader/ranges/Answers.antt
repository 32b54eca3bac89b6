use Rattle.std.proofs.Common.{◌+◌, ◌-◌, ◌∙◌, arith}
use Rattle.layout.proofs.Steps.{range_next}
use Rattle.layout.proofs.reader.Reader.ranges.Goals as goal

pub loop-preserved : goal.loop-preserved
loop-preserved c =
    let h = c.in_ok-range.ensures in
    let r = h.found.0 in
    let e = range_next (c.args.count - c.loop.counter) (c.args.count - (c.loop.counter + 1)) c.loop.low c.loop.seen c.loop.self.place c.loop.self.rest.now _ _ (omega arith) r in
    record { few = omega arith; low = omega arith; same = rw (c.from-low.ensures, c.from.ensures, h.behind.0, h.behind.1) (c.loop.invariant.same ∙ e) }
