use Rattle.std.proofs.Common.{◌∙◌}
use Rattle.bk_scope.proofs.Seeing.{conjuncts-told}
use Rattle.bk_infer.proofs.settled.told_of.Goals as goal

pub returns-clause-told : goal.returns-clause-told
returns-clause-told c = λ i.
    let typing = c.args.typing in
    let g = c.args.group.now in
    conjuncts-told c.under.result typing.max typing.types.now g.around.items c.deref-2.result.now g.names.items g.predicate.now i c.in_ok-types.types.items c.under.ensures.max c.under.ensures.types (c.under.ensures.names ∙ c.deref.ensures.value) c.deref-2.ensures.value c.in_ok-types.ensures
