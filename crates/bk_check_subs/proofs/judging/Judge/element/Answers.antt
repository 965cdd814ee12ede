use Rattle.std.proofs.Common.{◌∙◌, ap, [], ◌∷◌}
use Rattle.std.specs.Prelude.{Option}
use Rattle.bk_val.specs.ValueType.{ValueType}
use Rattle.bk_raw.specs.Errors.Blame.{blame}
use Rattle.bk_elab_terms.specs.Shown.{told}
use Rattle.bk_check_subs.specs.Written.{writable_by}
use Rattle.bk_check_subs.specs.Judged.{typing_by, names_by}
use Rattle.bk_statics.specs.Typings.{target, type_at}
use Rattle.bk_statics.specs.SubFaults.{left_faults, put_faults}
use Rattle.bk_scope.proofs.FaultSteps.{told-both}
use Rattle.bk_check_subs.proofs.judging.Judge.element.Goals as goal

pub returns : goal.returns
returns c =
    let j = c.args.self.now in
    let f = c.args.name.now in
    told-both (left_faults (names_by j) (writable_by j.writable.now) [] (f ∷ [])) (put_faults j.typing.max (typing_by j) (names_by j) f.at (type_at (typing_by j) (target (names_by j) f.text)) c.args.index.now c.args.value.now)
    (told c.write_fault-left.result) (told c.in_ok-put.put) (told c.earlier.result) c.write_fault-left.ensures
    (c.in_ok-put.ensures ∙ ap (λ (t : Option ValueType). blame (put_faults j.typing.max (typing_by j) (names_by j) f.at t c.args.index.now c.args.value.now)) c.in_ok-ty.ensures) c.earlier.ensures
