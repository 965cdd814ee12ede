use Rattle.std.proofs.Common.{◌∙◌, ◌∷◌, [], List, ℕ, ap, sym, subst}
use Rattle.bk_dev.specs.Flattened.{flattened}
use Rattle.bk_po.specs.Shown.{named_sequent}
use Rattle.bk_p_proof.specs.Files.{AreScriptsOf, IsFaultOf}
use Rattle.bk_p_proof.specs.declared.fault.ScriptFault.{ScriptFault}
use Rattle.bk_p_proof.specs.declared.fault.ScriptFault.TheVariants.{Fault, Limit}
use Rattle.bk_print.specs.declared.trial.Trial.{Trial}
use Rattle.bk_print.specs.Found.{IsTrial, trial_past}
use Rattle.bk_print.proofs.Steps.{limit_trial, fault_fails}
use Rattle.bk_print.proofs.searching.trial.Goals as goal

pub returns-in-Ok : goal.returns-in-Ok
returns-in-Ok c = c.trial_of.ensures c.args.text.now (subst (λ (t : List ℕ). AreScriptsOf (t ∷ []) c.in-Ok.read) c.in_ok-file.ensures.items c.in-Ok.ensures.value)

pub returns-in-Err-Limit : goal.returns-in-Err-Limit
returns-in-Err-Limit c =
    let dev = flattened c.args.dev.now in
    let o = named_sequent c.args.obligation.now in
    let text = c.args.text.now in
    let number = c.in-Err-Limit.number in
    let file = c.in-Err-Limit.field-0-1 in
    let whole : IsFaultOf (text ∷ []) c.in-Err-Limit.field-0 = subst (λ (t : List ℕ). IsFaultOf (t ∷ []) c.in-Err-Limit.field-0) c.in_ok-file.ensures.items c.in-Err-Limit.ensures.fault in
    let limit : IsFaultOf (text ∷ []) (Limit number file) = subst (λ (f : ScriptFault). IsFaultOf (text ∷ []) f) c.in-Err-Limit.field-0-is whole in
    subst (λ (t : Trial). IsTrial dev o text t) (sym (c.trial_past.ensures ∙ ap trial_past c.in-Err-Limit.number-is)) (limit_trial dev o text number file limit)

pub returns-in-Err-Fault : goal.returns-in-Err-Fault
returns-in-Err-Fault c =
    let text = c.args.text.now in
    let whole : IsFaultOf (text ∷ []) c.in-Err-Fault.field-0 = subst (λ (t : List ℕ). IsFaultOf (t ∷ []) c.in-Err-Fault.field-0) c.in_ok-file.ensures.items c.in-Err-Fault.ensures.fault in
    let fault : IsFaultOf (text ∷ []) (Fault c.in-Err-Fault.field-0-0 c.in-Err-Fault.field-0-1 c.in-Err-Fault.field-0-2) = subst (λ (f : ScriptFault). IsFaultOf (text ∷ []) f) c.in-Err-Fault.field-0-is whole in
    fault_fails (flattened c.args.dev.now) (named_sequent c.args.obligation.now) text c.in-Err-Fault.field-0-0 c.in-Err-Fault.field-0-1 c.in-Err-Fault.field-0-2 fault
