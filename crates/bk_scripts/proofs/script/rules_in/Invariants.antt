use Rattle.std.proofs.Common.{take}
use Rattle.std.specs.List.{AllZip}
use Rattle.bk_scripts.specs.Grounding.{StandsFor}
use Rattle.bk_scripts.proofs.script.rules_in.Given as goal

abbrev pub invariant-loop-raw : goal.invariant-loop-raw
invariant-loop-raw l = AllZip (StandsFor (record { table = l.table; scope = l.scope })) (take l.raw-index l.written) l.rules.items
