use Rattle.std.proofs.Common.{◌≡◌, ◌-◌}
use Rattle.layout.specs.Format.{glyphs}
use Rattle.layout.specs.Records.{fault_of}
use Rattle.layout.proofs.reader.Reader.glyphs.Given as goal

abbrev pub invariant-loop : goal.invariant-loop
invariant-loop l = fault_of (glyphs l.count 0 l.initial.self.place l.initial.self.rest.now) ≡ fault_of (glyphs (l.count - l.counter) l.low l.self.place l.self.rest.now)
