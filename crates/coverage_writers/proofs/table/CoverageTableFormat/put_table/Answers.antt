use Rattle.std.proofs.Common.{length, ap, arith}
use Rattle.coverage_writers.specs.WriterLaws.{length-format2, table_second}
use Rattle.coverage_writers.proofs.table.CoverageTableFormat.put_table.Goals as goal

pub put_ranges-requires-clause-room : goal.put_ranges-requires-clause-room
put_ranges-requires-clause-room c = let gs = c.args.glyphs.now in omega (arith, ap length (table_second gs (omega arith)), length-format2 gs)
