use Rattle.std.proofs.Common.{◌≡◌, drop}
use Rattle.bk_laws.specs.Tables.{law_named}
use Rattle.bk_laws.proofs.instances.law_named.Given as goal

abbrev pub invariant-loop-law : goal.invariant-loop-law
invariant-loop-law l = law_named (drop l.law-index l.laws) l.name ≡ law_named l.laws l.name
