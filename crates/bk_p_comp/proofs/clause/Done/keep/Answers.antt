use Rattle.bk_p_comp.proofs.Follows.{kept_built, kept_high}
use Rattle.bk_p_comp.proofs.clause.Done.keep.Goals as goal

pub returns-in_ok-push-in-Built-clause-kept : goal.returns-in_ok-push-in-Built-clause-kept
returns-in_ok-push-in-Built-clause-kept c = λ cs d a f. kept_built cs d c.args.self.is_high c.args.self.clauses.items _ c.args.next c.in-Built.parts a f c.in-Built.is c.in_ok-push-in-Built.ensures.items

pub returns-in-High-clause-kept : goal.returns-in-High-clause-kept
returns-in-High-clause-kept c = λ cs d a f. kept_high cs d c.args.next f c.in-High.is
