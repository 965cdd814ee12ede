use Rattle.std.proofs.Common.{refl, List, [], cond}
use Rattle.std.specs.Borrow.{Bor}
use Rattle.bk_raw.specs.Meaning.Outcome.{no_type}
use Rattle.bk_elab_terms.specs.Shown.{told}
use Rattle.bk_raw.specs.Trees.ComponentTree.{RawSet}
use Rattle.bk_statics.specs.ClauseFaults.{has_name, set_faults}
use Rattle.bk_scope.specs.Shown.{refs}
use Rattle.bk_scope.proofs.FaultSteps.{told-item}
use Rattle.bk_check_clauses.proofs.clause_fault.set_fault.Goals as goal

pub loop-set-preserved : goal.loop-set-preserved
loop-set-preserved c =
    told-item (λ (l : List (Bor RawSet)). set_faults (refs l)) (λ (s : Bor RawSet). cond (has_name s.now.elements) [] (no_type s.now.name.at)) c.args.sets.now c.loop-set.set-index c.set-item.result (told c.loop-set.fault) (told c.lone_set.result) (told c.earlier-fault.result) _
    (λ _ _. refl) c.loop-set-test.true c.set-item.is c.lone_set.ensures c.earlier-fault.ensures c.loop-set.invariant
