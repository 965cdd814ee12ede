use Rattle.std.proofs.Common.{◌≡◌, map, Ok, sym, ◌∙◌, ap, subst}
use Rattle.bk_form.specs.Each.{Each}
use Rattle.bk_seq.specs.Sequents.{sequent_of}
use Rattle.bk_kernel.specs.declared.branch.Branch.{Branch as StoredBranch}
use Rattle.bk_kernel.specs.Branches.{extended}
use Rattle.bk_kernel.specs.Held.{branch_of, held, IsFine, IsExtension}
use Rattle.bk_kernel.proofs.Steps.{extension-of}
use Rattle.bk_kernel.proofs.stepping.extended.Goals as goal

pub returns-clause-value : goal.returns-clause-value
returns-clause-value c =
    let table = c.args.types.now in
    let s = sequent_of c.args.sequent in
    let items = c.in-Some.branches.items in
    let news = map sequent_of c.in_ok-sequents_with.field-0.items in
    let fine : Each (IsFine table) (map branch_of items) = subst (λ bs. Each (IsFine table) (map branch_of bs)) c.deref.ensures.value (c.in_ok-are_fine.ensures.fine (ap (λ b. Ok b) c.if-not-branch.false)) in
    let made : news ≡ map (λ (b : StoredBranch). extended s (branch_of b)) items = c.in_ok-sequents_with.ensures in
    subst (λ o. IsExtension table s o news) (sym (ap held c.in-Some.is)) (extension-of table s items news fine made)
