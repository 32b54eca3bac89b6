use Rattle.std.proofs.Common.{◌≡◌, drop}
use Rattle.graph.specs.Model.{view}
use Rattle.lookups.specs.Values.{subtables_from}
use Rattle.lookups.specs.Views.{offsets_of}
use Rattle.lookups.proofs.Walks.{fault_of}
use Rattle.lookups.proofs.reads.check_subtables.Given as goal

abbrev pub invariant-loop-i : goal.invariant-loop-i
invariant-loop-i l =
    fault_of (subtables_from (view l.graph).nodes l.lookup.head.kind l.i (drop l.i (offsets_of l.lookup)))
    ≡ fault_of (subtables_from (view l.graph).nodes l.lookup.head.kind 0 (offsets_of l.lookup))
