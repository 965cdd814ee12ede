use Rattle.bk_form.proofs.Widening.{widening_means, widening_roles}
use Rattle.bk_form.proofs.WiderDefined.{widening_defined}
use Rattle.bk_form.proofs.laws.wider_tables.Goals as goal

pub returns : goal.returns
returns c = record { means = widening_means; roles = widening_roles; defined = widening_defined }
