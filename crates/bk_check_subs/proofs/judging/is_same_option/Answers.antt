use Rattle.std.proofs.Common.{◌∙◌, ap, sym}
use Rattle.std.specs.Prelude.{Option, Some}
use Rattle.std.specs.Borrow.{Bor}
use Rattle.std.specs.Option.{option_copied}
use Rattle.bk_val.specs.ValueType.{ValueType}
use Rattle.bk_statics.specs.SubFaults.{is_same_option}
use Rattle.bk_scope.proofs.FaultLists.{same-by}
use Rattle.bk_check_subs.proofs.judging.is_same_option.Goals as goal

pub returns-in-Some-Some : goal.returns-in-Some-Some
returns-in-Some-Some c =
    same-by c.equal.result c.in-Some-Some.ty.now c.in-Some-Some.other.now c.equal.ensures
    ∙ (ap (λ (o : Option (Bor ValueType)). is_same_option (option_copied o) (option_copied (Some c.in-Some-Some.other))) (sym c.in-Some-Some.is-0)
    ∙ ap (λ (o : Option (Bor ValueType)). is_same_option (option_copied c.args.ty) (option_copied o)) (sym c.in-Some-Some.is-1))
