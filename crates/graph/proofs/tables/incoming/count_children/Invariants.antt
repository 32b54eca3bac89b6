use Rattle.std.proofs.Common.{◌≡◌, ℕ, ◌<◌, length, get_or, take}
use Rattle.serialize.specs.Objects.{leading_to}
use Rattle.graph.proofs.tables.incoming.count_children.Given as goal

abbrev pub invariant-loop-link : goal.invariant-loop-link
invariant-loop-link l = (v : ℕ) → v < length l.counts → get_or l.counts v 0 ≡ leading_to (take l.link-index l.links) v
