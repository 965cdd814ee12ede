use Rattle.bk_seq.specs.Sequents.{sequent_of}
use Rattle.bk_kernel.proofs.Steps.{extensions-step, no-extension, drops-step, no-drop}
use Rattle.bk_kernel.proofs.stepping.step.Goals as goal

pub returns-in_default-clause-value : goal.returns-in_default-clause-value
returns-in_default-clause-value c =
    extensions-step c.args.types.now (sequent_of c.args.sequent) c.args.rule.now c.extending.result c.in_default.ensures c.requires.types c.requires.within c.extending.ensures.value

pub returns-in_default-clause-no_instance : goal.returns-in_default-clause-no_instance
returns-in_default-clause-no_instance c h news w =
    no-extension c.args.types.now (sequent_of c.args.sequent) c.args.rule.now c.in_default.ensures (c.extending.ensures.no_instance h) news w

pub returns-clause-value : goal.returns-clause-value
returns-clause-value c =
    drops-step c.args.types.now (sequent_of c.args.sequent) c.args.rule.now c.in-Some.number c.dropping.result c.in-Some.ensures c.requires.types c.requires.within c.dropping.ensures.value

pub returns-clause-no_instance : goal.returns-clause-no_instance
returns-clause-no_instance c h news w =
    no-drop c.args.types.now (sequent_of c.args.sequent) c.args.rule.now c.in-Some.number c.in-Some.ensures (c.dropping.ensures.no_instance h) news w
