use Rattle.std.proofs.Common.{◌∙◌, ap, ℕ, List, map, take}
use Rattle.std.specs.Borrow.{Bor}
use Rattle.bk_raw.specs.declared.term.RawName.{RawName}
use Rattle.bk_raw.specs.Meaning.Binders.{is_text}
use Rattle.bk_elab_terms.specs.Shown.{told}
use Rattle.bk_elab_terms.specs.Visible.{visible_names}
use Rattle.bk_statics.specs.NameFaults.{named_texts}
use Rattle.std.specs.Prelude.{◌||◌}
use Rattle.bk_statics.specs.Binders.{texts}
use Rattle.bk_scope.proofs.FaultNames.{twice-next, twice-end}
use Rattle.bk_check_clauses.proofs.name_fault.twice_after.Goals as goal

pub loop-index-preserved : goal.loop-index-preserved
loop-index-preserved c =
    let others = named_texts (visible_names c.args.others.now) in
    let before : List (Bor RawName) = take c.loop-index.index c.args.names.now in
    twice-next (λ (y : Bor RawName). y.now) others c.args.names.now c.loop-index.index c.index-names-index.result c.is_seen-again.result (told c.loop-index.fault) (told c.second_if.result) (told c.earlier-fault.result) _ c.loop-index-test.true c.index-names-index.is
    (c.is_seen-again.ensures ∙ ap (λ (t : List ℕ). is_text others t || is_text (texts (map (λ y. y.now) before)) t) c.as_bytes.ensures.value)
    c.second_if.ensures c.earlier-fault.ensures c.loop-index.invariant

pub returns : goal.returns
returns c =
    twice-end (λ (y : Bor RawName). y.now) (named_texts (visible_names c.args.others.now)) c.args.names.now c.loop-index.index (told c.loop-index.fault) _ c.loop-index-test.false c.loop-index.invariant
