use Rattle.walk.proofs.Closure.{reached_right}
use Rattle.walk.proofs.laws.reached_is_closure.Goals as goal

pub returns : goal.returns
returns c = reached_right
