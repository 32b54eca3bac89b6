use Rattle.serialize.specs.Scanning.{KeptBelow, ScannedTo}
use Rattle.serialize.proofs.object_file.ObjectFile.first_broken.Given as goal

abbrev pub invariant-loop-i : goal.invariant-loop-i
invariant-loop-i l = KeptBelow l.self.bytes.now l.self.trailer l.i × ScannedTo l.self.bytes.now l.self.trailer l.i l.scan
