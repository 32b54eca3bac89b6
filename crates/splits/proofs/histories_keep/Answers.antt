use Rattle.splits.proofs.Opened.{histories_keep_lem}
use Rattle.splits.proofs.histories_keep.Goals as goal

pub returns : goal.returns
returns c = histories_keep_lem
