use Rattle.tableau.proofs.Exchanges.{leads_back, numbers_back}
use Rattle.tableau.proofs.theorems.exchanges_lead_back.Goals as goal

pub returns : goal.returns
returns c = record { limits = leads_back; numbers = numbers_back }
