use Rattle.std.proofs.Common.{rules}
use Rattle.bk_p_proof.proofs.RuleWords.{named_found}
use Rattle.bk_p_proof.proofs.rule.word_of.Goals as goal

pub returns-in-Name : goal.returns-in-Name
returns-in-Name c = named_found c.args.kind.now c.as_bytes.result.now c.named.result (search rules) c.named.ensures
