use Rattle.std.proofs.Common.{[], arith}
use Rattle.bk_form.specs.Role.{bind}
use Rattle.bk_wd.proofs.Firsts.{within_first_joined}
use Rattle.bk_wd.proofs.definedness.+defining.Goals as goal

pub all_defined-returns-in_err-form-in-len1-up-clause-too_large : goal.all_defined-returns-in_err-form-in-len1-up-clause-too_large
all_defined-returns-in_err-form-in-len1-up-clause-too_large t c = λ e w.
    c.in_err-form-in-len1-up.ensures.too_large (grind arith)
    (within_first_joined c.args.types.now (bind c.args.around.now []) c.args.form c.args.forms.now c.first-item.result c.in_ok-defined_under-in-len1-up.field-0 c.first-item.is c.in-len1-up.len_at_least c.in_ok-defined_under-in-len1-up.ensures.value w)
