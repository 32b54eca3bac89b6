use Rattle.std.proofs.Common.{◌≡◌, ◌+◌, ◌*◌, length}
use Rattle.coverage_writers.specs.Formats.{bytes_of, runs, format2, range_words}
use Rattle.coverage_writers.proofs.Runs.{Along}
use Rattle.std.specs.Iterator.Adapters.{enumerate_source, enumerate_count}
use Rattle.std.specs.Slice.Iter.{chunk_by_rest}
use Rattle.coverage_writers.proofs.format2.CoverageFormat2.put_ranges.Given as goal

abbrev pub invariant-loop-k : goal.invariant-loop-k
invariant-loop-k l = record {
  can : (goal.iterator-loop-k).can_next l.k-iterator;
  finite : (goal.iterator-loop-k).is_finite l.k-iterator;
  along : Along (format2 l.glyphs) l.initial.out l.out (bytes_of (range_words l.index (runs (chunk_by_rest (enumerate_source l.k-iterator))))) (4 + 6 * enumerate_count l.k-iterator);
  left : l.index + length (chunk_by_rest (enumerate_source l.k-iterator)) ≡ length l.glyphs;
}
