use Rattle.std.proofs.Common.{◌∙◌, ap, length, get_or, List, arith}
use Rattle.bk_raw.specs.Errors.Blame.{blame}
use Rattle.bk_elab_terms.specs.Shown.{told}
use Rattle.bk_statics.specs.Components.{abstract_names}
use Rattle.bk_statics.specs.Executable.{abstract_faults}
use Rattle.bk_scope.specs.Shown.{variables_shown}
use Rattle.bk_scope.specs.declared.component.WrittenVariable.{WrittenVariable}
use Rattle.bk_check_b0.proofs.Executing.{abstract-more}
use Rattle.bk_check_b0.proofs.executable.abstract_fault.Goals as goal

pub loop-variable-preserved : goal.loop-variable-preserved
loop-variable-preserved c =
    let vs = c.args.component.now.variables.items in
    abstract-more vs c.loop-variable.variable-index c.variable-item.result (told c.loop-variable.fault) (told c.earlier-fault.result) (told c.not_executable.result) (blame (abstract_faults (abstract_names (variables_shown vs))))
    (omega (arith, ap length c.deref-variable-items.ensures.value)) (c.variable-item.is ∙ ap (λ (us : List WrittenVariable). get_or us c.loop-variable.variable-index c.variable-item.result) c.deref-variable-items.ensures.value)
    c.not_executable.ensures c.earlier-fault.ensures c.loop-variable.invariant
