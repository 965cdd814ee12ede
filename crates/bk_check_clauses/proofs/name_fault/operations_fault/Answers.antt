use Rattle.std.proofs.Common.{◌∙◌, ap, sym, ℕ, List, [], take}
use Rattle.std.specs.Borrow.{Bor}
use Rattle.bk_raw.specs.declared.term.RawName.{RawName}
use Rattle.bk_raw.specs.Trees.ComponentTree.{RawOperation}
use Rattle.bk_raw.specs.Meaning.Binders.{is_text, twice}
use Rattle.bk_raw.specs.Errors.Blame.{blame}
use Rattle.bk_elab_terms.specs.Shown.{told}
use Rattle.bk_statics.specs.Binders.{texts}
use Rattle.bk_statics.specs.Components.{operation_names}
use Rattle.bk_scope.specs.Shown.{refs}
use Rattle.bk_scope.proofs.FaultNames.{twice-next, twice-end, operations-named}
use Rattle.bk_check_clauses.proofs.name_fault.operations_fault.Goals as goal

pub loop-index-preserved : goal.loop-index-preserved
loop-index-preserved c =
    let before : List (Bor RawOperation) = take c.loop-index.index c.args.operations.now in
    let x : List ℕ = c.index-operations-index.result.now.name.text in
    twice-next (λ (o : Bor RawOperation). o.now.name) [] c.args.operations.now c.loop-index.index c.index-operations-index.result (is_text (texts (operation_names (refs before))) x) (told c.loop-index.fault) (told c.named_again.result) (told c.earlier-fault.result) _
    c.loop-index-test.true c.index-operations-index.is (ap (λ (l : List RawName). is_text (texts l) x) (sym (operations-named before))) c.named_again.ensures c.earlier-fault.ensures c.loop-index.invariant

pub returns : goal.returns
returns c =
    twice-end (λ (o : Bor RawOperation). o.now.name) [] c.args.operations.now c.loop-index.index (told c.loop-index.fault) _ c.loop-index-test.false c.loop-index.invariant ∙ ap (λ (l : List RawName). blame (twice [] l)) (operations-named c.args.operations.now)
