use Rattle.bk_wd.proofs.Examples.{well_defined_examples, checked_examples}
use Rattle.bk_wd.proofs.laws.examples.Goals as goal

pub returns-clause-defined : goal.returns-clause-defined
returns-clause-defined c = well_defined_examples

pub returns-clause-checked : goal.returns-clause-checked
returns-clause-checked c = checked_examples
