use Rattle.std.proofs.Common.{rules}
use Rattle.bk_proof_words.proofs.words.flag.Goals as goal

pub returns-clause-rule : goal.returns-clause-rule
returns-clause-rule c = search rules

pub returns-clause-local : goal.returns-clause-local
returns-clause-local c = search rules
