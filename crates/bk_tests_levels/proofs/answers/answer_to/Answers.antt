use Rattle.std.proofs.Common.{ℤ, sym, subst, rules, FitsSigned, w64, to_z-of_z}
use Rattle.bk_statics.specs.VerdictLaws.{IsRangeBelow}
use Rattle.bk_tests_levels.proofs.answers.answer_to.Goals as goal

pub level-requires-clause-range : goal.level-requires-clause-range
level-requires-clause-range c =
    let fits : FitsSigned w64 c.max_of-max.result = search rules in
    subst (λ (m : ℤ). IsRangeBelow m c.unboxed-above.result) (sym (to_z-of_z fits)) c.max_of-max.ensures
