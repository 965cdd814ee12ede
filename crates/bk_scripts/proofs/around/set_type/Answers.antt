use Rattle.std.proofs.Common.{◌∙◌, sym, ap, None}
use Rattle.bk_scripts.proofs.Finds.{type_hidden, type_open}
use Rattle.bk_scripts.proofs.around.set_type.Goals as goal

pub returns-in-Some-clause-value : goal.returns-in-Some-clause-value
returns-in-Some-clause-value c = sym (type_hidden c.args.table.now c.args.scope.now c.args.text.now _ (sym c.find.ensures ∙ c.in-Some.is))

pub returns-in-None-clause-value : goal.returns-in-None-clause-value
returns-in-None-clause-value c = c.set_of.ensures.value ∙ sym (type_open c.args.table.now c.args.scope.now c.args.text.now (sym c.find.ensures ∙ c.in-None.is))
