use Rattle.std.proofs.Common.{◌∙◌, ap}
use Rattle.std.proofs.lemmas.Result.{IfOk-weaker}
use Rattle.bk_val.specs.Value.{pair}
use Rattle.bk_val.specs.Sets.{has, union_of}
use Rattle.bk_val.proofs.Relations.{overridden_of-pairs}
use Rattle.bk_val.proofs.relation.overridden.Goals as goal

pub returns-clause-pairs : goal.returns-clause-pairs
returns-clause-pairs c = IfOk-weaker c.union.result _ _
    (λ t e x y. ap (λ s. has s (pair x y)) (e ∙ ap (λ k. union_of k c.args.s.now) c.in_ok-kept.ensures) ∙ overridden_of-pairs c.args.r.now c.args.s.now x y)
    c.union.ensures.exact
