use Rattle.std.proofs.Common.{sym, ◌∙◌}
use Rattle.bk_kernel.proofs.SmallPicks.{picks-within}
use Rattle.bk_kernel.proofs.instances.law_forward.Goals as goal

pub returns-then-not-are_within-clause-too_large : goal.returns-then-not-are_within-clause-too_large
returns-then-not-are_within-clause-too_large c h i e w =
    let all = picks-within c.args.law c.args.picks.now i e w in
    let never = sym c.if-not-are_within.true ∙ c.are_within.ensures.1 all in
    absurd (cc)
