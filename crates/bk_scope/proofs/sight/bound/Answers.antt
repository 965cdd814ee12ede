use Rattle.std.proofs.Common.{ap, ◌∙◌, length, ◌-◌, arith, rules}
use Rattle.bk_elab_terms.specs.Visible.{visible_names}
use Rattle.bk_statics.specs.Typings.{numbered}
use Rattle.bk_scope.proofs.Binding.{bound-start, bound-step, from-start, bound-end}
use Rattle.bk_scope.proofs.sight.bound.Goals as goal

pub loop-index-init : goal.loop-index-init
loop-index-init c = record {
  names = ap (λ ns. visible_names ns) c.new-names.ensures.items ∙ bound-start c.args.first (length c.args.bound.now) c.args.bound.now (omega arith);
  within = omega arith;
}

pub loop-index-preserved : goal.loop-index-preserved
loop-index-preserved c = record {
  names = bound-step c.args.first c.loop-index.index (c.loop-index.index - 1) c.in_ok-number.number c.args.bound.now c.index-bound-index.result c.loop-index.names.items c.push.new.self.items c.variable_named.result (omega arith) (omega arith) c.in_ok-number.ensures c.index-bound-index.is (search rules) c.loop-index.invariant.names c.in_ok-push.ensures.items;
  within = omega arith;
}

pub returns : goal.returns
returns c = bound-end (numbered c.args.first c.args.bound.now) c.loop-index.names.items c.extend_from_slice.new.self.items c.args.around.now (c.loop-index.invariant.names ∙ from-start c.args.first c.loop-index.index c.args.bound.now (omega arith)) (search rules)
