use Rattle.std.proofs.Common.{◌≡◌, length, drop}
use Rattle.bk_elab_terms.specs.Visible.{visible_names}
use Rattle.bk_statics.specs.Binders.{texts}
use Rattle.bk_statics.specs.OperationFaults.{same_texts}
use Rattle.bk_statics.specs.NameFaults.{named_texts}
use Rattle.bk_check_clauses.proofs.headers.have_texts.Given as goal

abbrev pub invariant-loop-index : goal.invariant-loop-index
invariant-loop-index l = record {
  rest : same_texts (named_texts (visible_names (drop l.index l.names))) (texts (drop l.index l.written)) ≡ same_texts (named_texts (visible_names l.names)) (texts l.written);
  same : length l.names ≡ length l.written;
}
