use Rattle.cutting.proofs.Theory.{theory}
use Rattle.cutting.proofs.greedy_is_shortest.Goals as goal

pub returns : goal.returns
returns c = theory
