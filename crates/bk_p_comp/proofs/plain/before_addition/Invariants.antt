use Rattle.std.proofs.Common.{◌≡◌, ◌++◌, false, take, drop}
use Rattle.bk_p_comp.specs.Plain.{before_addition}
use Rattle.bk_p_comp.proofs.plain.before_addition.Given as goal

abbrev pub invariant-loop-end : goal.invariant-loop-end
invariant-loop-end l = before_addition false l.tokens ≡ take l.end l.tokens ++ before_addition l.behind_brace (drop l.end l.tokens)
