use Rattle.std.proofs.Common.{refl, List, [], ◌∷◌, cond}
use Rattle.bk_raw.specs.declared.term.RawName.{RawName}
use Rattle.bk_raw.specs.Meaning.Binders.{is_text}
use Rattle.bk_raw.specs.Errors.Faults.{twice_named}
use Rattle.bk_elab_terms.specs.Shown.{told}
use Rattle.bk_elab_terms.specs.Visible.{visible_names}
use Rattle.bk_statics.specs.NameFaults.{named_texts, taken}
use Rattle.bk_scope.proofs.FaultSteps.{told-next}
use Rattle.bk_check_clauses.proofs.name_fault.taken_elements.Goals as goal

pub loop-element-preserved : goal.loop-element-preserved
loop-element-preserved c =
    let ts = named_texts (visible_names c.args.names.now) in
    let x : RawName = c.element-item.result in
    told-next (λ (l : List RawName). taken ts l) (cond (is_text ts x.text) (twice_named x.at ∷ []) []) c.args.elements.now c.loop-element.element-index x (told c.loop-element.fault) (told c.taken_one.result) (told c.earlier-fault.result) _ refl c.loop-element-test.true c.element-item.is
    c.taken_one.ensures c.earlier-fault.ensures c.loop-element.invariant
