use Rattle.bk_form.proofs.Examples.{examples, defined-examples}
use Rattle.bk_form.proofs.laws.examples.Goals as goal

pub returns-clause-meaning : goal.returns-clause-meaning
returns-clause-meaning c = examples

pub returns-clause-defined : goal.returns-clause-defined
returns-clause-defined c = defined-examples
