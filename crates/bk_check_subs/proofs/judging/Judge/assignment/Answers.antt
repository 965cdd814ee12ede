use Rattle.std.proofs.Common.{◌∙◌, ap, [], ◌++◌, length}
use Rattle.bk_raw.specs.Trees.RawTree.{trees_of}
use Rattle.bk_raw.specs.Errors.Blame.{blame}
use Rattle.bk_elab_terms.specs.Shown.{told}
use Rattle.bk_statics.specs.SubFaults.{left_faults, first_place}
use Rattle.bk_check_subs.specs.Written.{writable_by}
use Rattle.bk_check_subs.specs.Judged.{names_by, paired_by, unpaired_by}
use Rattle.bk_scope.proofs.FaultSteps.{told-three}
use Rattle.bk_check_subs.proofs.FaultJudged.{assigned}
use Rattle.bk_check_subs.proofs.judging.Judge.assignment.Goals as goal

pub returns : goal.returns
returns c =
    let j = c.args.self.now in
    let xs = c.args.names.now in
    let es = trees_of c.args.terms.now in
    let left = left_faults (names_by j) (writable_by j.writable.now) [] xs in
    told-three left (paired_by j (first_place xs) xs es) (unpaired_by j (first_place xs) (length xs) es) (told c.in_ok-left.left) (told c.in_ok-paired.paired) (told c.in_ok-others.others) (told c.earlier-right.result) (told c.earlier.result)
    c.in_ok-left.ensures c.in_ok-paired.ensures (c.in_ok-others.ensures ∙ ap (λ n. blame (unpaired_by j n (length xs) es)) c.first_place.ensures) c.earlier-right.ensures c.earlier.ensures
    ∙ ap (λ l. blame (left ++ l)) (assigned j (first_place xs) xs es)
