use Rattle.bk_elab_terms.specs.Shown.{told}
use Rattle.bk_elab_terms.specs.Visible.{typing_of}
use Rattle.bk_scope.proofs.FaultLists.{input-next, inputs-past, inputs-end}
use Rattle.bk_check_clauses.proofs.clause_fault.input_fault.Goals as goal

pub loop-index-preserved : goal.loop-index-preserved
loop-index-preserved c =
    input-next (typing_of c.args.typing.types.now) c.args.names.now c.args.inputs.now c.loop-index.index _ c.index-inputs-index.result (told c.loop-index.fault) (told c.untyped_input.result) (told c.earlier-fault.result) _
    c.if-index-names.false c.loop-index-test.true c.index-inputs-index.is c.untyped_input.ensures c.earlier-fault.ensures c.loop-index.invariant

pub returns-then-index-names : goal.returns-then-index-names
returns-then-index-names c =
    inputs-past (typing_of c.args.typing.types.now) c.args.names.now c.args.inputs.now c.loop-index.index (told c.loop-index.fault) _ c.if-index-names.true c.loop-index.invariant

pub returns : goal.returns
returns c =
    inputs-end (typing_of c.args.typing.types.now) c.args.names.now c.args.inputs.now c.loop-index.index (told c.loop-index.fault) _ c.loop-index-test.false c.loop-index.invariant
