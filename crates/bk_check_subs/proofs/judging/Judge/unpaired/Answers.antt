use Rattle.std.proofs.Common.{◌∙◌, ap, sym, refl, ℕ, [], ◌∷◌, List}
use Rattle.std.specs.Prelude.{None}
use Rattle.bk_raw.specs.Trees.RawTree.{RawTree, trees_of}
use Rattle.bk_raw.specs.Errors.Blame.{blame}
use Rattle.bk_raw.specs.Errors.Faults.{wrong_write}
use Rattle.bk_elab_terms.specs.Shown.{told}
use Rattle.bk_check_subs.specs.Judged.{term_by, unpaired_by}
use Rattle.bk_scope.proofs.FaultSteps.{told-next, told-both, told-end}
use Rattle.bk_check_subs.proofs.FaultJudged.{behind-names}
use Rattle.bk_check_subs.proofs.judging.Judge.unpaired.Goals as goal

pub loop-term-preserved : goal.loop-term-preserved
loop-term-preserved c =
    let j = c.args.self.now in
    told-next (λ (l : List RawTree). unpaired_by j c.args.first 0 (trees_of l)) (wrong_write c.args.first ∷ term_by j None c.term-item.result) c.terms_behind-others.result.now c.loop-term.term-index c.term-item.result
    (told c.loop-term.fault) (told c.earlier.result) (told c.earlier-fault.result) _ refl c.loop-term-test.true c.term-item.is
    (told-both (wrong_write c.args.first ∷ []) (term_by j None c.term-item.result) (told c.wrong_write.result) (told c.in_ok-within.within) (told c.earlier.result) c.wrong_write.ensures c.in_ok-within.ensures c.earlier.ensures)
    c.earlier-fault.ensures c.loop-term.invariant

pub returns : goal.returns
returns c =
    let j = c.args.self.now in
    let first : ℕ = c.args.first in
    told-end (λ (l : List RawTree). unpaired_by j first 0 (trees_of l)) c.terms_behind-others.result.now c.loop-term.term-index (told c.loop-term.fault) _ refl c.loop-term-test.false c.loop-term.invariant
    ∙ (ap (λ (l : List RawTree). blame (unpaired_by j first 0 (trees_of l))) c.terms_behind-others.ensures ∙ ap blame (sym (behind-names j first c.args.count c.args.terms.now)))
