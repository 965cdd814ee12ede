use Rattle.std.proofs.Common.{ap, ◌∙◌, length, ◌-◌, arith, rules}
use Rattle.bk_elab_terms.specs.Visible.{visible_names}
use Rattle.bk_scope.proofs.Binding.{names-start, names-step-at, names-from-start, bound-end}
use Rattle.bk_scope.proofs.sight.bound_as.Goals as goal

pub loop-index-init : goal.loop-index-init
loop-index-init c = record {
  names = ap (λ ns. visible_names ns) c.new-names.ensures.items ∙ names-start (length c.args.bound.now) c.args.bound.now (omega arith);
  within = omega arith;
}

pub loop-index-preserved : goal.loop-index-preserved
loop-index-preserved c = record {
  names = names-step-at c.loop-index.index (c.loop-index.index - 1) c.args.bound.now _ c.loop-index.names.items c.push.new.self.items (omega arith) (omega arith) c.loop-index.invariant.names c.in_ok-push.ensures.items;
  within = omega arith;
}

pub returns : goal.returns
returns c = bound-end (visible_names c.args.bound.now) c.loop-index.names.items c.extend_from_slice.new.self.items c.args.around.now (c.loop-index.invariant.names ∙ names-from-start c.loop-index.index c.args.bound.now (omega arith)) (search rules)
