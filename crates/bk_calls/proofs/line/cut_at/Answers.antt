use Rattle.std.proofs.Common.{sym, ◌∙◌}
use Rattle.bk_calls.proofs.Cuts.{before_found, after_found, before_none, after_none}
use Rattle.bk_calls.proofs.line.cut_at.Goals as goal

pub returns-in-Some-clause-before : goal.returns-in-Some-clause-before
returns-in-Some-clause-before c = before_found c.args.byte c.args.text.now c.in-Some.place (sym c.in-Some.is ∙ c.requires)

pub returns-in-Some-clause-after : goal.returns-in-Some-clause-after
returns-in-Some-clause-after c = after_found c.args.byte c.args.text.now c.in-Some.place (sym c.in-Some.is ∙ c.requires)

pub returns-in-None-clause-before : goal.returns-in-None-clause-before
returns-in-None-clause-before c = before_none c.args.byte c.args.text.now (sym c.in-None.is ∙ c.requires)

pub returns-in-None-clause-after : goal.returns-in-None-clause-after
returns-in-None-clause-after c = after_none c.args.byte c.args.text.now (sym c.in-None.is ∙ c.requires)
