use Rattle.splitting.proofs.Extending.{extending_stands_lem}
use Rattle.splitting.proofs.extending_stands.Goals as goal

pub returns : goal.returns
returns c = extending_stands_lem
