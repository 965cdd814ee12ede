use Rattle.std.proofs.Common.{◌≡◌, ◌∙◌, ap, ℕ, List, []}
use Rattle.bk_raw.specs.Meaning.Names.{Names}
use Rattle.bk_raw.specs.Errors.Blame.{blame}
use Rattle.bk_elab_terms.specs.Shown.{told}
use Rattle.bk_elab_terms.specs.Visible.{visible_names}
use Rattle.bk_check_subs.specs.Written.{writable_by}
use Rattle.bk_check_subs.specs.Judged.{typing_by, names_by}
use Rattle.bk_form.specs.Role.{bind}
use Rattle.bk_statics.specs.Typings.{numbered_old}
use Rattle.bk_statics.specs.SubFaults.{left_faults, old_faults, predicate_faults}
use Rattle.bk_scope.specs.Shown.{numbered_texts}
use Rattle.bk_scope.proofs.FaultSteps.{told-three}
use Rattle.bk_scope.proofs.Seeing.{numbered-old}
use Rattle.bk_check_subs.proofs.judging.Judge.such.Goals as goal

pub returns : goal.returns
returns c =
    let j = c.args.self.now in
    let xs = c.args.names.now in
    let p = c.args.predicate.now in
    let names : visible_names c.deref-2.result.now ≡ bind (numbered_old j.first xs) (names_by j) =
    ap visible_names c.deref-2.ensures.value
    ∙ (c.in_ok-inside.ensures ∙ (ap (λ (ts : List (List ℕ)). bind (numbered_texts j.first ts) (names_by j)) (c.deref.ensures.value ∙ c.in_ok-texts.ensures) ∙ ap (λ (ns : Names). bind ns (names_by j)) (numbered-old j.first xs))) in
    told-three (left_faults (names_by j) (writable_by j.writable.now) [] xs) (old_faults (typing_by j) (names_by j) j.first xs) (predicate_faults j.typing.max (typing_by j) (bind (numbered_old j.first xs) (names_by j)) p)
    (told c.in_ok-left.left) (told c.in_ok-old.old) (told c.in_ok-stated.stated) (told c.earlier-right.result) (told c.earlier.result) c.in_ok-left.ensures c.in_ok-old.ensures
    (c.in_ok-stated.ensures ∙ ap (λ (ns : Names). blame (predicate_faults j.typing.max (typing_by j) ns p)) names) c.earlier-right.ensures c.earlier.ensures
