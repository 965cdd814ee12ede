use Rattle.bk_scripts.specs.Parts.{CertificatePart}
use Rattle.bk_scripts.proofs.Shaped.{one_none}
use Rattle.bk_scripts.proofs.rule.certificate.Goals as goal

pub returns-in-None : goal.returns-in-None
returns-in-None c = one_none CertificatePart c.args.parts.now c.in-None.ensures
