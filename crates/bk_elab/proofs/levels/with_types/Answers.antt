use Rattle.std.proofs.Common.{arith}
use Rattle.std.proofs.lemmas.List.{length_push}
use Rattle.bk_elab_terms.specs.Visible.{typing_of}
use Rattle.bk_elab.proofs.Assembling.{entry-more}
use Rattle.bk_elab.proofs.levels.with_types.Goals as goal

pub loop-text-preserved : goal.loop-text-preserved
loop-text-preserved c = (
  entry-more (typing_of c.args.typing.types.now) c.args.first c.loop-text.yielded c.in-Some.text c.loop-text.found.items c.push.new.self.items c.loop-text.number c.in_ok-ty.ty c.loop-text.invariant.0 c.loop-text.invariant.1
      c.in_ok-ty.ensures c.in_ok-push.ensures.items,
  omega (arith, c.in_ok-number.ensures, c.loop-text.invariant.1, length_push c.loop-text.yielded c.in-Some.text),
)
