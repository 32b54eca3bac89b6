use Rattle.std.proofs.Common.{length, ap, arith}
use Rattle.coverage_writers.specs.WriterLaws.{length-format2, table_second}
use Rattle.coverage_writers.proofs.table.CoverageTableFormat.table_length.Goals as goal

pub returns-else-glyphs-ranges : goal.returns-else-glyphs-ranges
returns-else-glyphs-ranges c = let gs = c.args.glyphs.now in omega (arith, ap length (table_second gs (omega arith)), length-format2 gs)
