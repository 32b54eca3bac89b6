use Rattle.std.proofs.Common.{sym}
use Rattle.coverage_writers.specs.WriterLaws.{length-format1}
use Rattle.coverage_writers.proofs.format1.CoverageFormat1Format.table_length.Goals as goal

pub returns : goal.returns
returns c = sym (length-format1 c.args.glyphs.now)
