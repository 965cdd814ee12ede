use Rattle.std.proofs.Common.{◌++◌, [], ◌∷◌, ◌∙◌}
use Rattle.bk_p_comp.proofs.Follows.{numbers_more}
use Rattle.bk_p_comp.proofs.clause.Done.and.Goals as goal

pub returns : goal.returns
returns c = λ cs d a f. (numbers_more cs d _ _ c.args.next a.0 f (c.in_ok-push.ensures.items ∙ (λ i. c.in_ok-done.ensures.numbers i ++ c.number_of-number.ensures i ∷ [])), c.in_ok-done.ensures.kept cs d a.1 f)
