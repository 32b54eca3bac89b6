use Rattle.std.proofs.Common.{◌≡◌, ◌+◌, ◌-◌, Some}
use Rattle.fields.specs.Cursors.{rest}
use Rattle.fields.specs.Fields.{times, nullable}
use Rattle.fields.specs.Arrays.{base_array_reader}
use Rattle.markbase.specs.Nodes.{node_of, read}
use Rattle.markbase.proofs.Repeats.{onward, at_end, fault_of}
use Rattle.markbase.proofs.base_array.BaseArray.read.Given as goal

abbrev pub invariant-loop : goal.invariant-loop
invariant-loop l = onward Some at_end (times (l.count - l.counter) (times l.class_count nullable) (rest l.cursor)) ≡ fault_of (read (base_array_reader l.count l.class_count) (node_of l.vertex))

abbrev pub invariant-loop-2 : goal.invariant-loop-2
invariant-loop-2 l =
    onward Some (λ s. onward Some at_end (times (l.count - (l.counter-2 + 1)) (times l.class_count nullable) s)) (times (l.class_count - l.counter) nullable (rest l.cursor))
    ≡ fault_of (read (base_array_reader l.count l.class_count) (node_of l.vertex))
