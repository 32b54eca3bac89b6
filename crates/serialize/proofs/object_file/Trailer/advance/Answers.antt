use Rattle.std.proofs.Common.{arith}
use Rattle.serialize.proofs.Files.{start_more}
use Rattle.serialize.proofs.object_file.Trailer.advance.Goals as goal

pub loop-v-preserved : goal.loop-v-preserved
loop-v-preserved c = (omega (arith, start_more c.args.file.now c.args.self c.loop-v.v (omega arith)), omega arith)
