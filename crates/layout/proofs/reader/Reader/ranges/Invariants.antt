use Rattle.std.proofs.Common.{◌≡◌, ◌-◌, ◌≤◌}
use Rattle.layout.specs.Format.{ranges}
use Rattle.layout.specs.Records.{fault_of}
use Rattle.layout.proofs.reader.Reader.ranges.Given as goal

abbrev pub invariant-loop : goal.invariant-loop
invariant-loop l = record {
  few : l.seen ≤ l.low;
  low : l.low ≤ 65536;
  same : fault_of (ranges l.count 0 0 l.initial.self.place l.initial.self.rest.now) ≡ fault_of (ranges (l.count - l.counter) l.low l.seen l.self.place l.self.rest.now);
}
