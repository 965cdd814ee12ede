use Rattle.std.proofs.Common.{◌≡◌, drop}
use Rattle.bk_scripts.specs.Finding.{set_among}
use Rattle.bk_scripts.proofs.found.set_named.Given as goal

abbrev pub invariant-loop-number : goal.invariant-loop-number
invariant-loop-number l = set_among l.number (drop l.number l.table.sets) l.text ≡ set_among 0 l.table.sets l.text
