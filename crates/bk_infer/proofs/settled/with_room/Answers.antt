use Rattle.std.proofs.Common.{◌∙◌, sym, ap, arith}
use Rattle.std.proofs.lemmas.List.{length_push}
use Rattle.bk_elab_terms.specs.Visible.{typing_of}
use Rattle.bk_infer.proofs.NextRound.{none_told}
use Rattle.bk_infer.proofs.settled.with_room.Goals as goal

pub loop-preserved : goal.loop-preserved
loop-preserved c = record {
  types = ap typing_of c.in_ok-push.ensures.items ∙ sym (none_told c.loop.types.items) ∙ c.loop.invariant.types;
  room = grind (arith, length_push);
}
