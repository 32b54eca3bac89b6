use Rattle.splitting.proofs.Opening.{stands_opens}
use Rattle.splitting.proofs.standing_opens.Goals as goal

pub returns : goal.returns
returns c = stands_opens
