use Rattle.std.proofs.Common.{refl, ℕ, List, [], cond}
use Rattle.std.specs.Borrow.{Bor}
use Rattle.bk_raw.specs.declared.term.RawName.{RawName}
use Rattle.bk_raw.specs.Meaning.Outcome.{no_type}
use Rattle.bk_elab_terms.specs.Shown.{told}
use Rattle.bk_elab_terms.specs.Visible.{typing_of}
use Rattle.bk_statics.specs.ClauseFaults.{is_flat, constant_faults}
use Rattle.bk_scope.specs.Shown.{refs}
use Rattle.bk_scope.proofs.FaultSteps.{told-number-item}
use Rattle.bk_check_clauses.proofs.clause_fault.constant_fault.Goals as goal

pub loop-index-preserved : goal.loop-index-preserved
loop-index-preserved c =
    let t = typing_of c.args.typing.types.now in
    told-number-item (λ (n : ℕ) (l : List (Bor RawName)). constant_faults t n (refs l)) (λ (n : ℕ) (x : Bor RawName). cond (is_flat (t n)) [] (no_type x.now.at)) c.args.first c.args.constants.now c.loop-index.index c.index-constants-index.result c.in_ok-number.number
    (told c.loop-index.fault) (told c.numbered_constant.result) (told c.earlier-fault.result) _ (λ _ _ _. refl) c.loop-index-test.true c.index-constants-index.is c.in_ok-number.ensures c.numbered_constant.ensures c.earlier-fault.ensures c.loop-index.invariant
