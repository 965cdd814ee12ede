use Rattle.std.proofs.Common.{◌∙◌, sym, arith}
use Rattle.bk_elab_terms.specs.Visible.{visible_names}
use Rattle.bk_statics.specs.Binders.{texts}
use Rattle.bk_statics.specs.NameFaults.{named_texts}
use Rattle.bk_scope.proofs.FaultLists.{other-length, texts-count, visible-count, not-false, same-next}
use Rattle.bk_check_clauses.proofs.headers.have_texts.Goals as goal

pub returns-then-names-written : goal.returns-then-names-written
returns-then-names-written c =
    sym (other-length (named_texts (visible_names c.args.names.now)) (texts c.args.written.now) (λ e. c.if-names-written.true (sym (visible-count c.args.names.now) ∙ (e ∙ texts-count c.args.written.now))))

pub loop-index-preserved : goal.loop-index-preserved
loop-index-preserved c = record {
  rest =
      same-next c.args.names.now c.args.written.now c.loop-index.index _ c.index-written-index.result c.as_bytes.result.now _ c.loop-index-test.true (omega (arith, c.loop-index.invariant.same)) c.as_bytes.ensures.value
      (not-false _ (sym c.ne.ensures ∙ c.if-ne.false)) c.loop-index.invariant.rest;
  same = c.loop-index.invariant.same;
}
