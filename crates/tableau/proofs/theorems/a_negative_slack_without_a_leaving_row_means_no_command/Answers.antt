use Rattle.tableau.proofs.Corners.{blocked_no_command}
use Rattle.tableau.proofs.Certificates.{weights_exist, weights_certify, certificate_none}
use Rattle.tableau.proofs.theorems.a_negative_slack_without_a_leaving_row_means_no_command.Goals as goal

pub returns : goal.returns
returns c = record { none = blocked_no_command; weights = weights_exist; certificate = weights_certify; shows = certificate_none }
