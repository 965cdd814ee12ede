use Rattle.bk_dev.proofs.CounterFacts.{counter_facts}
use Rattle.bk_dev.proofs.Counting.{reaches-ten, answers-ten, legal-where}
use Rattle.bk_dev.proofs.laws.counter.Goals as goal

pub returns-clause-is_development : goal.returns-clause-is_development
returns-clause-is_development c = counter_facts

pub returns-clause-reaches : goal.returns-clause-reaches
returns-clause-reaches c = reaches-ten

pub returns-clause-answers : goal.returns-clause-answers
returns-clause-answers c = answers-ten

pub returns-clause-legal : goal.returns-clause-legal
returns-clause-legal c = legal-where
