use Rattle.bk_po.proofs.Counters.{tally_asks}
use Rattle.bk_po.proofs.ExampleFacts.{examples_are_developments}
use Rattle.bk_po.proofs.laws.examples.Goals as goal

pub returns : goal.returns
returns c = record { tally = tally_asks; facts = examples_are_developments }
