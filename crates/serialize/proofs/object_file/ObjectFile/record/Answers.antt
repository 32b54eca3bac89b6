use Rattle.std.proofs.Common.{arith}
use Rattle.serialize.proofs.Files.{whole}
use Rattle.serialize.proofs.object_file.ObjectFile.record.Goals as goal

pub record-requires : goal.record-requires
record-requires c = let w = whole c.args.self.bytes.now c.args.self.trailer c.args.self.read in omega arith
