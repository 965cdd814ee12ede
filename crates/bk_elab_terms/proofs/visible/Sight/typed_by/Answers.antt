use Rattle.std.proofs.Common.{◌≡◌}
use Rattle.bk_elab_terms.specs.Visible.{types_by}
use Rattle.bk_elab_terms.proofs.Under.{ok-so, types-under}
use Rattle.bk_elab_terms.proofs.visible.Sight.typed_by.Goals as goal

pub returns : goal.returns
returns c =
    ok-so c.told_types.result _ (λ ts. ts.items ≡ types_by c.args.self.now c.args.names.now c.args.predicate.now) c.told_types.ensures (λ ts f.
    types-under c.args.self.now _ c.push_referred.new.reader c.clues.new.self c.args.names.now c.args.predicate.now ts.items c.new.ensures.items c.outer.ensures
    c.in_ok-push_referred.ensures.bounds c.in_ok-push_referred.ensures.stands c.in_ok-clues.ensures.clues f)
