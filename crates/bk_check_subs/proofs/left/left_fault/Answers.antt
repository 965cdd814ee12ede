use Rattle.std.proofs.Common.{◌∙◌, ap, ℕ, List, [], ◌∷◌, cond}
use Rattle.bk_raw.specs.Errors.Blame.{blame}
use Rattle.bk_raw.specs.Errors.Faults.{wrong_write}
use Rattle.bk_elab_terms.specs.Shown.{told}
use Rattle.bk_elab_terms.specs.Visible.{visible_names}
use Rattle.bk_statics.specs.SubFaults.{is_again}
use Rattle.bk_statics.specs.Typings.{target}
use Rattle.bk_scope.specs.Shown.{target_shown}
use Rattle.bk_check_subs.specs.Written.{writable_by}
use Rattle.bk_scope.proofs.FaultNames.{left-next}
use Rattle.bk_check_subs.proofs.left.left_fault.Goals as goal

pub loop-name-preserved : goal.loop-name-preserved
loop-name-preserved c =
    left-next (visible_names c.args.names.now) (writable_by c.args.writable.now) c.loop-name.before.items c.push_target.new.found.items c.args.written.now c.loop-name.name-index c.name-item.result (target_shown c.target_named-target.result)
    (told c.target_fault-wrong.result) (told c.again_fault-again.result) (told c.loop-name.fault) (told c.earlier.result) (told c.earlier-fault.result) _ c.loop-name-test.true c.name-item.is
    (c.target_named-target.ensures ∙ ap (λ (x : List ℕ). target (visible_names c.args.names.now) x) c.as_bytes.ensures.value) c.in_ok-push_target.ensures c.target_fault-wrong.ensures
    (c.again_fault-again.ensures ∙ ap (λ (l : List ℕ). blame (cond (is_again l (target_shown c.target_named-target.result)) (wrong_write c.name-item.result.at ∷ []) [])) c.deref.ensures.value)
    c.earlier.ensures c.earlier-fault.ensures c.loop-name.invariant
