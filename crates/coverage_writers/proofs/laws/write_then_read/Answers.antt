use Rattle.std.proofs.Common.{◌≡◌, ℕ, arith}
use Rattle.coverage_writers.proofs.Writes.{lawful_means, write_back, slice_back, count_back}
use Rattle.coverage_writers.proofs.laws.write_then_read.Goals as goal

pub returns-in_err-table : goal.returns-in_err-table
returns-in_err-table g c =
    let gs = c.args.glyphs.now in
    let w = c.args.writer.now in
    let m = g.W.CoverageWriter.meaning w gs in
    let back = write_back m gs c.args.out.now c.write.new.out (lawful_means _ (g.met.W.CoverageWriter.lawful w) gs) c.if-not-write.ensures.accepted c.write.ensures.bytes in
    let sound = slice_back m gs c.write.new.out c.length-length.result c.length-length.ensures back in
    let broken = c.in_err-table.ensures in
    let z : ◌≡◌ {A = ℕ} 0 1 = cc in
    absurd (omega arith)

pub returns-clause-read : goal.returns-clause-read
returns-clause-read g c =
    let gs = c.args.glyphs.now in
    let w = c.args.writer.now in
    let m = g.W.CoverageWriter.meaning w gs in
    let back = write_back m gs c.args.out.now c.write.new.out (lawful_means _ (g.met.W.CoverageWriter.lawful w) gs) c.if-not-write.ensures.accepted c.write.ensures.bytes in
    (count_back m gs c.write.new.out c.in_ok-table.table.bytes.now c.length-length.result c.count.result c.length-length.ensures back c.in_ok-table.ensures.0 c.count.ensures, back)
