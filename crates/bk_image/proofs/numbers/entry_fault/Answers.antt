use Rattle.std.proofs.Common.{◌+◌, ◌<◌, ◌∙◌, ap, subst, length}
use Rattle.bk_image.specs.Spelling.{text}
use Rattle.bk_image.specs.Faults.{IsFirst, IsParametersFault}
use Rattle.bk_image.proofs.Judged.{first_inputs}
use Rattle.bk_image.proofs.numbers.entry_fault.Goals as goal

pub returns-in-Some : goal.returns-in-Some
returns-in-Some c =
    let image = c.args.image.now in
    let at = c.args.at in
    let op = c.args.entry.now in
    let e = c.in-Some.fault in
    let name = c.text_size.ensures ∙ ap (λ bytes. length (text bytes)) c.as_slice.ensures in
    let inputs = subst (λ ps. IsFirst (IsParametersFault image (at + c.text_size.result + 4) ps) e) c.as_slice-3.ensures c.in-Some.ensures in
    first_inputs image at op e (subst (λ code. op.start < length code) c.as_slice-2.ensures c.if-entry-as_slice.false)
    (subst (λ k. IsFirst (IsParametersFault image (at + k + 4) op.inputs) e) name inputs)
