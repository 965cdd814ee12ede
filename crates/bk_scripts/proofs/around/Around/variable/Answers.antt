use Rattle.std.proofs.Common.{◌∙◌, sym, ap, None}
use Rattle.std.specs.Option.{option_copied}
use Rattle.bk_scripts.proofs.Finds.{no_entry, no_variable_there, variable_there}
use Rattle.bk_scripts.proofs.around.Around.variable.Goals as goal

pub returns-in_default : goal.returns-in_default
returns-in_default c = no_entry c.args.self.now.table.now c.args.self.now.scope.now c.args.text.now (sym c.find.ensures ∙ c.in_default.is)

pub returns-in-None : goal.returns-in-None
returns-in-None c = no_variable_there c.args.self.now.table.now c.args.self.now.scope.now c.args.text.now c.in-Some.number (sym c.find.ensures ∙ c.in-Some.is) (sym c.ty.ensures.value ∙ ap option_copied c.in-None.is)

pub returns-in-Some-ty : goal.returns-in-Some-ty
returns-in-Some-ty c = variable_there c.args.self.now.table.now c.args.self.now.scope.now c.args.text.now c.in-Some.number _ (sym c.find.ensures ∙ c.in-Some.is) (sym c.ty.ensures.value ∙ ap option_copied c.in-Some-ty.is)
