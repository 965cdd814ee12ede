use Rattle.std.proofs.Common.{◌≡◌, ◌+◌, ℕ, suc, sym, ap, ◌∙◌, drop, arith}
use Rattle.bk_raw.specs.Trees.RawTree.{trees_of}
use Rattle.bk_elab_terms.specs.Visible.{visible_names}
use Rattle.bk_statics.specs.Ways.{among_terms}
use Rattle.bk_infer.proofs.Among.{among-step}
use Rattle.bk_infer.proofs.ways.among_terms.Goals as goal

pub loop-index-preserved : goal.loop-index-preserved
loop-index-preserved c =
    let names = visible_names c.args.place.now.names.value.items in
    let i = c.loop-index.index in
    let next : i + 1 ≡ suc i = omega arith in
    ap (λ (j : ℕ). among_terms names c.args.variable (drop j c.args.names.now) (trees_of (drop j c.args.terms.now))) next
    ∙ among-step names c.args.variable c.args.names.now c.args.terms.now i c.index-names-index.result c.loop-index-test.true c.index-names-index.is (sym c.is_written.ensures ∙ c.if-is_written.false) ∙ c.loop-index.invariant
