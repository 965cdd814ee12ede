use Rattle.std.proofs.Common.{◌∙◌, ap, sym, arith}
use Rattle.bk_raw.specs.Errors.Blame.{blame}
use Rattle.bk_elab_terms.specs.Shown.{told}
use Rattle.bk_elab_terms.specs.Visible.{visible_names, meaning_of}
use Rattle.bk_statics.specs.Executable.{input_scalars, is_scalar_option}
use Rattle.bk_statics.specs.Typings.{Typing, type_at, target_in}
use Rattle.bk_check_b0.proofs.Executing.{input-more, input-end}
use Rattle.bk_check_b0.proofs.executable.input_scalars.Goals as goal

pub loop-index-preserved : goal.loop-index-preserved
loop-index-preserved c = λ x h.
    input-more x c.args.names.now c.args.inputs.now c.loop-index.index c.in-Some.name.now c.index-inputs-index.result c.is_flat_name-scalar.result (told c.loop-index.fault) (told c.earlier-fault.result) (told c.not_executable.result) (blame (input_scalars x (visible_names c.args.names.now) c.args.inputs.now))
    c.in-Some.ensures.lookup.3.0 c.in-Some.ensures.lookup.1 c.loop-index-test.true c.index-inputs-index.is
    (c.is_flat_name-scalar.ensures ∙ ap (λ (t : Typing). is_scalar_option (type_at t (target_in (meaning_of c.in-Some.name.now.meaning)))) (sym h))
    c.not_executable.ensures c.earlier-fault.ensures (c.loop-index.invariant x h)

pub returns : goal.returns
returns c = λ x h. input-end x c.args.names.now c.args.inputs.now c.loop-index.index (told c.loop-index.fault) (blame (input_scalars x (visible_names c.args.names.now) c.args.inputs.now)) (omega arith) (c.loop-index.invariant x h)
