use Rattle.std.proofs.Common.{◌≡◌, ◌++◌, take}
use Rattle.bk_kernel.proofs.branch.push_all.Given as goal

abbrev pub invariant-loop-form : goal.invariant-loop-form
invariant-loop-form l = l.forms.items ≡ l.fn.forms.items ++ take l.form-index l.more
