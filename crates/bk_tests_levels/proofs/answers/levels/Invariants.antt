use Rattle.std.proofs.Common.{IfSome}
use Rattle.bk_dev.specs.Facts.{IsDevelopment}
use Rattle.bk_tests_levels.proofs.answers.levels.Given as goal

abbrev pub invariant-loop-text : goal.invariant-loop-text
invariant-loop-text l = IfSome l.development (λ dev. IsDevelopment dev.value)
