use Rattle.written.proofs.Leads.{links_lead}
use Rattle.written.proofs.links_lead_where_read.Goals as goal

pub returns : goal.returns
returns c = links_lead
