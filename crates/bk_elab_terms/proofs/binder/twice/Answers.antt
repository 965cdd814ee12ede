use Rattle.std.proofs.Common.{◌≡◌, ℕ, List, [], true, false, sym, ◌∙◌, ap}
use Rattle.std.specs.Prelude.{take}
use Rattle.bk_raw.specs.Trees.FreeNames.{is_among}
use Rattle.bk_raw.specs.Meaning.Binders.{twice}
use Rattle.bk_raw.specs.Errors.Blame.{blame}
use Rattle.bk_elab_terms.specs.Shown.{told}
use Rattle.bk_elab_terms.proofs.Bindings.{twice-more}
use Rattle.bk_raw.proofs.Blamed.{earlier-none}
use Rattle.bk_elab_terms.proofs.binder.twice.Goals as goal
use Rattle.bk_elab_terms.proofs.binder.twice.Goals.{then-is_among, else-is_among}

pub loop-index-preserved : goal.loop-index-preserved
loop-index-preserved c =
    let seen : c.is_among.result ≡ is_among c.index-names-index.result.text (take c.loop-index.index c.args.names.now) = c.is_among.ensures ∙ ap (λ (x : List ℕ). is_among x (take c.loop-index.index c.args.names.now)) c.as_bytes.ensures.value in
    elim c.if-is_among.branch [
      | then-is_among w ↦
          twice-more c.args.names.now c.loop-index.index c.index-names-index.result true (told c.loop-index.fault) (told c.if-is_among.fault) (blame (twice [] c.args.names.now)) c.loop-index-test.true c.index-names-index.is
          (sym seen ∙ w.if-is_among.true) c.loop-index.invariant (ap told w.fault-is ∙ w.earlier-fault.ensures)
      | else-is_among w ↦
          twice-more c.args.names.now c.loop-index.index c.index-names-index.result false (told c.loop-index.fault) (told c.if-is_among.fault) (blame (twice [] c.args.names.now)) c.loop-index-test.true c.index-names-index.is
          (sym seen ∙ w.if-is_among.false) c.loop-index.invariant (ap told w.fault-is ∙ sym (earlier-none (told c.loop-index.fault)))
    ]
