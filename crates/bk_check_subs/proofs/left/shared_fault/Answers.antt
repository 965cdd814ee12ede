use Rattle.std.proofs.Common.{◌∙◌, ap, refl, ℕ, List, [], ◌∷◌, Bool, cond, map, get_or}
use Rattle.bk_gsl.specs.State.{among}
use Rattle.bk_raw.specs.Errors.Blame.{blame}
use Rattle.bk_raw.specs.Errors.Faults.{wrong_write}
use Rattle.bk_elab_terms.specs.Shown.{told}
use Rattle.bk_statics.specs.SubFaults.{shared_faults}
use Rattle.bk_check_subs.specs.declared.left.Write.{Write}
use Rattle.bk_check_subs.specs.Written.{writes_shown}
use Rattle.bk_scope.proofs.FaultSteps.{told-here}
use Rattle.bk_check_subs.proofs.left.shared_fault.Goals as goal

pub loop-write-preserved : goal.loop-write-preserved
loop-write-preserved c =
    let ws : List ℕ = map (λ w. w.variable) c.args.left.now in
    let w : Write = get_or c.args.right.now c.loop-write.write-index record { variable = 0; at = 0 } in
    told-here (λ vs. shared_faults ws (writes_shown vs)) (cond (among ws w.variable) (wrong_write w.at ∷ []) []) c.args.right.now c.loop-write.write-index record { variable = 0; at = 0 } (told c.loop-write.fault) (told c.wrong_write_if.result) (told c.earlier-fault.result) _
    refl c.loop-write-test.true (c.wrong_write_if.ensures ∙ ap (λ (b : Bool). blame (cond b (wrong_write w.at ∷ []) [])) c.writes-is_shared.ensures) c.earlier-fault.ensures c.loop-write.invariant
