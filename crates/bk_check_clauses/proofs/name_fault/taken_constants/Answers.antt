use Rattle.std.proofs.Common.{refl, List, [], ◌∷◌, cond}
use Rattle.std.specs.Borrow.{Bor}
use Rattle.bk_raw.specs.declared.term.RawName.{RawName}
use Rattle.bk_raw.specs.Meaning.Binders.{is_text}
use Rattle.bk_raw.specs.Errors.Faults.{twice_named}
use Rattle.bk_elab_terms.specs.Shown.{told}
use Rattle.bk_elab_terms.specs.Visible.{visible_names}
use Rattle.bk_statics.specs.NameFaults.{named_texts, taken}
use Rattle.bk_scope.specs.Shown.{refs}
use Rattle.bk_scope.proofs.FaultSteps.{told-item}
use Rattle.bk_check_clauses.proofs.name_fault.taken_constants.Goals as goal

pub loop-constant-preserved : goal.loop-constant-preserved
loop-constant-preserved c =
    let ts = named_texts (visible_names c.args.names.now) in
    told-item (λ (l : List (Bor RawName)). taken ts (refs l)) (λ (x : Bor RawName). cond (is_text ts x.now.text) (twice_named x.now.at ∷ []) []) c.args.constants.now c.loop-constant.constant-index c.constant-item.result (told c.loop-constant.fault) (told c.taken_one.result) (told c.earlier-fault.result) _
    (λ _ _. refl) c.loop-constant-test.true c.constant-item.is c.taken_one.ensures c.earlier-fault.ensures c.loop-constant.invariant
