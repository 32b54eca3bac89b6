use Rattle.splitting.proofs.Plan.{cutting_stands_lem}
use Rattle.splitting.proofs.cutting_stands.Goals as goal

pub returns : goal.returns
returns c = cutting_stands_lem
