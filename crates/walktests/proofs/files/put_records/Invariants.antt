use Rattle.std.proofs.Common.{◌≡◌, ◌++◌, take, vec_items}
use Rattle.walktests.specs.Files.{records_bytes}
use Rattle.walktests.proofs.files.put_records.Given as goal

abbrev pub invariant-loop-r : goal.invariant-loop-r
invariant-loop-r l = vec_items l.file ≡ vec_items l.fn.file ++ records_bytes (take l.r-index l.records)
