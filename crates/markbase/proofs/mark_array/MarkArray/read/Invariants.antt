use Rattle.std.proofs.Common.{◌≡◌, ◌-◌, Some}
use Rattle.fields.specs.Cursors.{rest}
use Rattle.fields.specs.Fields.{times}
use Rattle.fields.specs.Arrays.{mark, mark_array_reader}
use Rattle.markbase.specs.Nodes.{node_of, read}
use Rattle.markbase.proofs.Repeats.{onward, at_end, fault_of}
use Rattle.markbase.proofs.mark_array.MarkArray.read.Given as goal

abbrev pub invariant-loop : goal.invariant-loop
invariant-loop l = onward Some at_end (times (l.count - l.counter) (mark l.class_count) (rest l.cursor)) ≡ fault_of (read (mark_array_reader l.count l.class_count) (node_of l.vertex))
