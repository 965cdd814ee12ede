use Rattle.std.proofs.Common.{refl, List}
use Rattle.std.specs.Borrow.{Bor}
use Rattle.bk_elab_terms.specs.Shown.{told}
use Rattle.bk_elab_terms.specs.Visible.{typing_of, visible_names}
use Rattle.bk_raw.specs.Trees.RawTree.{RawTree}
use Rattle.bk_statics.specs.SubFaults.{predicate_faults}
use Rattle.bk_statics.specs.ClauseFaults.{all_stated_faults}
use Rattle.bk_scope.specs.Shown.{refs}
use Rattle.bk_scope.proofs.FaultSteps.{told-item}
use Rattle.bk_check_clauses.proofs.clause_fault.all_stated_fault.Goals as goal

pub loop-predicate-preserved : goal.loop-predicate-preserved
loop-predicate-preserved c =
    let t = typing_of c.args.typing.types.now in
    told-item (λ (l : List (Bor RawTree)). all_stated_faults c.args.typing.max t (visible_names c.args.names.now) (refs l)) (λ (p : Bor RawTree). predicate_faults c.args.typing.max t (visible_names c.args.names.now) p.now) c.args.predicates.now c.loop-predicate.predicate-index c.predicate-item.result
    (told c.loop-predicate.fault) (told c.in_ok-stated_fault.field-0) (told c.earlier-fault.result) _ (λ _ _. refl) c.loop-predicate-test.true c.predicate-item.is c.in_ok-stated_fault.ensures c.earlier-fault.ensures c.loop-predicate.invariant
