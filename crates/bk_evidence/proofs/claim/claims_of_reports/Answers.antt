use Rattle.std.proofs.Common.{refl}
use Rattle.bk_evidence.proofs.claim.claims_of_reports.Goals as goal

pub returns : goal.returns
returns c = record { proved = refl; trusted = refl; not_claimed = refl }
