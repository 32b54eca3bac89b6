use Rattle.std.proofs.Common.{◌≡◌, ◌-◌, Err}
use Rattle.serialize.specs.declared.link.LinkWidth.TheVariants.{Two}
use Rattle.fields.specs.Cursors.{rest}
use Rattle.fields.specs.Fields.{times, offset}
use Rattle.markbase.specs.Nodes.{node_of, read}
use Rattle.markbase.proofs.Repeats.{onward}
use Rattle.lookups.specs.Tables.{lookup, head_of}
use Rattle.lookups.proofs.Heads.{tail_of}
use Rattle.lookups.proofs.lookup.check_fields.Given as goal

abbrev pub invariant-loop : goal.invariant-loop
invariant-loop l = onward Err (tail_of l.kind l.flag.value l.count.value) (times (l.count.value - l.counter) (offset Two) (rest l.cursor)) ≡ head_of (read lookup (node_of l.vertex))
