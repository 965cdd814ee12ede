use Rattle.std.proofs.Common.{◌≡◌, take, map}
use Rattle.bk_laws.specs.Patterns.{formula_of}
use Rattle.bk_laws.specs.Rows.{pick_at}
use Rattle.bk_laws.specs.Tables.{pattern_at}
use Rattle.bk_laws.proofs.instances.patterns.Given as goal

abbrev pub invariant-loop-number : goal.invariant-loop-number
invariant-loop-number l = l.forms.items ≡ map (λ n. formula_of (pick_at l.picks) (pattern_at l.pats 8 n)) (take l.number-index l.numbers)
