use Rattle.std.proofs.Common.{ℕ, ◌∙◌, ◌+◌, ap, sym, arith}
use Rattle.bk_raw.specs.Errors.Blame.{blame}
use Rattle.bk_elab_terms.specs.Shown.{told}
use Rattle.bk_elab_terms.specs.Visible.{typing_of}
use Rattle.bk_statics.specs.Executable.{output_scalars, is_scalar_option}
use Rattle.bk_statics.specs.Typings.{Typing}
use Rattle.bk_check_b0.proofs.Executing.{flat-scalar, output-more, output-end}
use Rattle.bk_check_b0.proofs.executable.output_scalars.Goals as goal

pub loop-index-preserved : goal.loop-index-preserved
loop-index-preserved c = λ x h.
    let types = c.args.typing.types.now in
    output-more x c.args.first c.args.outputs.now c.loop-index.index c.index-outputs-index.result c.is_flat-scalar.result (told c.loop-index.fault) (told c.earlier-fault.result) (told c.not_executable.result) (blame (output_scalars x c.args.first c.args.outputs.now))
    c.loop-index-test.true c.index-outputs-index.is
    (c.is_flat-scalar.ensures ∙ (flat-scalar (typing_of types c.in_ok-number.number) ∙ (ap (λ (n : ℕ). is_scalar_option (typing_of types n)) c.in_ok-number.ensures ∙ ap (λ (t : Typing). is_scalar_option (t (c.args.first + c.loop-index.index))) (sym h))))
    c.not_executable.ensures c.earlier-fault.ensures (c.loop-index.invariant x h)

pub returns : goal.returns
returns c = λ x h. output-end x c.args.first c.args.outputs.now c.loop-index.index (told c.loop-index.fault) (blame (output_scalars x c.args.first c.args.outputs.now)) (omega arith) (c.loop-index.invariant x h)
