use Rattle.written.proofs.Sizes.{lengths}
use Rattle.written.proofs.lengths_add_up.Goals as goal

pub returns : goal.returns
returns c = lengths
