use Rattle.bk_form.proofs.Sizing.{sizes_keep_roles, sizes_fit, one_size_is_given, sets_are_counted, elements_have_texts}
use Rattle.bk_form.proofs.laws.sized_tables.Goals as goal

pub returns-clause-roles : goal.returns-clause-roles
returns-clause-roles c = sizes_keep_roles

pub returns-clause-fit : goal.returns-clause-fit
returns-clause-fit c = sizes_fit

pub returns-clause-one : goal.returns-clause-one
returns-clause-one c = one_size_is_given

pub returns-clause-counted : goal.returns-clause-counted
returns-clause-counted c = sets_are_counted

pub returns-clause-texts : goal.returns-clause-texts
returns-clause-texts c = elements_have_texts
