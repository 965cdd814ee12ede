use Rattle.std.proofs.Common.{◌∷◌, [], ◌++◌, ◌∙◌, ap}
use Rattle.bk_scripts.specs.Sight.{part_text}
use Rattle.bk_status.proofs.Names.{name_more}
use Rattle.bk_status.proofs.name.text_of.Goals as goal

pub loop-part-preserved : goal.loop-part-preserved
loop-part-preserved c =
    c.in_ok-add_part-2.ensures
    ∙ (ap (λ t. t ++ part_text c.part-item.result) (c.in_ok-push.ensures.items ∙ ap (λ t. t ++ 46 ∷ []) c.loop-part.invariant)
    ∙ name_more c.args.first.now c.args.rest.now c.loop-part.part-index c.part-item.result c.loop-part-test.true c.part-item.is)
