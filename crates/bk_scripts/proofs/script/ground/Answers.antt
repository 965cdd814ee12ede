use Rattle.std.proofs.Common.{subst}
use Rattle.std.specs.Prelude.{IfOk}
use Rattle.bk_dev.specs.Flattened.{flattened}
use Rattle.bk_scripts.specs.Grounding.{AreRulesOf}
use Rattle.bk_scripts.proofs.Turns.{if_ok_more}
use Rattle.bk_scripts.proofs.Sighted.{rules_same}
use Rattle.bk_scripts.proofs.script.ground.Goals as goal

pub returns : goal.returns
returns c = subst (λ t. IfOk c.rules_over.result (λ p. AreRulesOf t (flattened c.args.dev.now) c.args.script.now p.0.items p.1)) c.requires (if_ok_more (λ p. AreRulesOf c.args.table.now c.args.dev.now c.args.script.now p.0.items p.1) (λ p. AreRulesOf c.args.table.now (flattened c.args.dev.now) c.args.script.now p.0.items p.1) c.rules_over.result (λ p h. rules_same c.args.table.now c.args.dev.now c.args.script.now p.0.items p.1 h) c.rules_over.ensures)
