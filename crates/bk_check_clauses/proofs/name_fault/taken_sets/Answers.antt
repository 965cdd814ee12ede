use Rattle.std.proofs.Common.{List, [], ◌∷◌, ◌++◌, cond}
use Rattle.std.specs.Borrow.{Bor}
use Rattle.bk_raw.specs.Meaning.Binders.{is_text}
use Rattle.bk_elab_terms.specs.Shown.{told}
use Rattle.bk_elab_terms.specs.Visible.{visible_names}
use Rattle.bk_statics.specs.NameFaults.{named_texts, taken}
use Rattle.bk_raw.specs.Trees.ComponentTree.{RawSet}
use Rattle.bk_raw.specs.Errors.Faults.{twice_named}
use Rattle.bk_statics.specs.Components.{set_names}
use Rattle.bk_scope.specs.Shown.{refs}
use Rattle.bk_scope.proofs.FaultSteps.{told-item}
use Rattle.bk_scope.proofs.FaultLists.{taken-set}
use Rattle.bk_check_clauses.proofs.name_fault.taken_sets.Goals as goal

pub loop-set-preserved : goal.loop-set-preserved
loop-set-preserved c =
    let ts = named_texts (visible_names c.args.names.now) in
    told-item (λ (l : List (Bor RawSet)). taken ts (set_names (refs l))) (λ (s : Bor RawSet). cond (is_text ts s.now.name.text) (twice_named s.now.name.at ∷ []) [] ++ taken ts s.now.elements) c.args.sets.now c.loop-set.set-index c.set-item.result (told c.loop-set.fault) (told c.taken_set.result) (told c.earlier-fault.result) _
    (λ s l. taken-set ts s.now (refs l)) c.loop-set-test.true c.set-item.is c.taken_set.ensures c.earlier-fault.ensures c.loop-set.invariant
