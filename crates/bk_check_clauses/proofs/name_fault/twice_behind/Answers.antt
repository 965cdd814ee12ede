use Rattle.std.proofs.Common.{◌∙◌, ap, sym, ℕ, List, take}
use Rattle.bk_raw.specs.declared.term.RawName.{RawName}
use Rattle.bk_raw.specs.Meaning.Binders.{is_text, twice}
use Rattle.bk_raw.specs.Errors.Blame.{blame}
use Rattle.bk_elab_terms.specs.Shown.{told}
use Rattle.std.specs.Prelude.{◌||◌}
use Rattle.bk_statics.specs.Binders.{texts}
use Rattle.bk_scope.proofs.FaultNames.{twice-next, twice-end, map-same}
use Rattle.bk_check_clauses.proofs.name_fault.twice_behind.Goals as goal

pub loop-index-preserved : goal.loop-index-preserved
loop-index-preserved c =
    let others = texts c.args.others.now in
    let x : RawName = c.index-names-index.result in
    let before : List RawName = take c.loop-index.index c.args.names.now in
    twice-next (λ (y : RawName). y) others c.args.names.now c.loop-index.index x c.either_has-again.result (told c.loop-index.fault) (told c.second_if.result) (told c.earlier-fault.result) _ c.loop-index-test.true c.index-names-index.is
    (c.either_has-again.ensures ∙ (ap (λ (t : List ℕ). is_text others t || is_text (texts before) t) c.as_bytes.ensures.value ∙ ap (λ (l : List RawName). is_text others x.text || is_text (texts l) x.text) (sym (map-same before))))
    c.second_if.ensures c.earlier-fault.ensures c.loop-index.invariant

pub returns : goal.returns
returns c =
    twice-end (λ (y : RawName). y) (texts c.args.others.now) c.args.names.now c.loop-index.index (told c.loop-index.fault) _ c.loop-index-test.false c.loop-index.invariant ∙ ap (λ (l : List RawName). blame (twice (texts c.args.others.now) l)) (map-same c.args.names.now)
