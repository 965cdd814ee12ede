use Rattle.bk_raw.proofs.ScopeRight.{formula-types, formula-speaks, formula-clean}
use Rattle.bk_raw.proofs.readings.formulas.Goals as goal

pub returns-clause-typed : goal.returns-clause-typed
returns-clause-typed c = formula-types

pub returns-clause-one_of_both : goal.returns-clause-one_of_both
returns-clause-one_of_both c = record { formula = formula-speaks; no_fault = formula-clean }
