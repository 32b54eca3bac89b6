use Rattle.std.proofs.Common.{◌≡◌, ◌*◌, ◌≤◌}
use Rattle.serialize.specs.ObjectFile.{start_at}
use Rattle.serialize.proofs.object_file.Trailer.advance.Given as goal

abbrev pub invariant-loop-v : goal.invariant-loop-v
invariant-loop-v l = (l.start ≡ start_at l.file l.self l.v) × (l.start ≤ l.v * 4294967295)
