use Rattle.std.proofs.Common.{◌≡◌, drop, map}
use Rattle.std.specs.List.{list_any}
use Rattle.bk_laws.specs.Patterns.{asks_empty}
use Rattle.bk_laws.specs.Tables.{pattern_at}
use Rattle.bk_laws.proofs.instances.any_asks.Given as goal

abbrev pub invariant-loop-number : goal.invariant-loop-number
invariant-loop-number l = list_any (asks_empty l.k) (map (pattern_at l.pats 8) (drop l.number-index l.numbers)) ≡ list_any (asks_empty l.k) (map (pattern_at l.pats 8) l.numbers)
