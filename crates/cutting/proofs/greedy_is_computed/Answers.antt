use Rattle.cutting.proofs.Computing.{agrees}
use Rattle.cutting.proofs.greedy_is_computed.Goals as goal

pub returns : goal.returns
returns c = agrees
