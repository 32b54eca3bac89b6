use Rattle.walk.proofs.Growing.{reached_grows_lem}
use Rattle.walk.proofs.laws.reached_grows.Goals as goal

pub returns : goal.returns
returns c = reached_grows_lem
