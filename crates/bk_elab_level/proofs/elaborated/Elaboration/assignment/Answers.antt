use Rattle.std.proofs.Common.{◌∙◌, ap}
use Rattle.bk_raw.specs.Trees.RawTree.{trees_of}
use Rattle.bk_elab_terms.specs.Visible.{visible_names}
use Rattle.bk_statics.specs.Elaborated.{assigned_pairs}
use Rattle.bk_statics.specs.Typings.{target, number_of, type_at}
use Rattle.bk_elab_level.specs.Read.{types_by}
use Rattle.bk_elab_level.proofs.Elaborating.{pairs-more, by-term}
use Rattle.bk_elab_level.proofs.elaborated.Elaboration.assignment.Goals as goal

pub loop-index-preserved : goal.loop-index-preserved
loop-index-preserved c =
    let e = c.args.self.now in
    let names = visible_names e.names.now in
    let x = c.index-names-index.result in
    let t = c.in-Some.term.now in
    pairs-more e.typing.max (types_by e) names c.args.names.now c.args.terms.now c.loop-index.index x t c.in_ok-form.form c.number.result c.loop-index.pairs.items c.push_pair.new.found.items
    (assigned_pairs e.typing.max (types_by e) names c.args.names.now (trees_of c.args.terms.now)) c.loop-index-test.true c.index-names-index.is
    c.in-Some.ensures.lookup.3.0 c.in-Some.ensures.lookup.1
    (c.in_ok-form.ensures ∙ by-term e (type_at (types_by e) (target names x.text)) t) (c.number.ensures ∙ ap number_of c.target_named.ensures) c.in_ok-push_pair.ensures c.loop-index.invariant
