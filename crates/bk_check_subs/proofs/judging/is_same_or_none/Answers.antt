use Rattle.std.proofs.Common.{◌∙◌, ap, sym}
use Rattle.std.specs.Prelude.{Option}
use Rattle.bk_val.specs.ValueType.{ValueType}
use Rattle.bk_statics.specs.SubFaults.{same_or_none}
use Rattle.bk_scope.proofs.FaultLists.{same-by}
use Rattle.bk_check_subs.proofs.judging.is_same_or_none.Goals as goal

pub returns-in-Some : goal.returns-in-Some
returns-in-Some c = same-by c.equal.result c.in-Some.ty c.args.other.now c.equal.ensures ∙ ap (λ (o : Option ValueType). same_or_none o c.args.other.now) (sym c.in-Some.is)
