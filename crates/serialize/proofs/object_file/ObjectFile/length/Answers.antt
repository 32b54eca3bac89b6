use Rattle.std.proofs.Common.{arith}
use Rattle.serialize.proofs.Files.{whole}
use Rattle.serialize.proofs.object_file.ObjectFile.length.Goals as goal

pub length-requires : goal.length-requires
length-requires c = let w = whole c.args.self.bytes.now c.args.self.trailer c.args.self.read in omega arith
