use Rattle.std.proofs.Common.{ℕ, ◌-◌, ◌<◌, ◌≤◌}
use Rattle.layout.specs.Records.{range_count, last_index, index_of}
use Rattle.layout.proofs.coverage.Coverage.find_index.Given as goal

-- the ranges below `low` end before the index, and those from `high` on start after it
abbrev pub invariant-loop-low : goal.invariant-loop-low
invariant-loop-low l =
    let bs = l.self.bytes.now in
    (l.high ≤ range_count bs)
    × ((k : ℕ) → k < l.low → last_index bs k < l.index)
    × ((k : ℕ) → l.high ≤ k → k < range_count bs → l.index < index_of bs k)

abbrev pub decreases-loop-low : goal.decreases-loop-low
decreases-loop-low l = l.high - l.low
