use Rattle.std.proofs.Common.{◌≡◌, ◌++◌, take, vec_items}
use Rattle.walktests.specs.Files.{words}
use Rattle.walktests.proofs.files.put.Given as goal

abbrev pub invariant-loop-number : goal.invariant-loop-number
invariant-loop-number l = vec_items l.file ≡ vec_items l.fn.file ++ words (take l.number-index l.numbers)
