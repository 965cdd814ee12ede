use Rattle.std.proofs.Common.{◌≡◌, take}
use Rattle.std.specs.Prelude.{Some}
use Rattle.bk_kernel.specs.Rules.{listed_facts}
use Rattle.bk_kernel.proofs.closing.listed.Given as goal

abbrev pub invariant-loop-number : goal.invariant-loop-number
invariant-loop-number l = listed_facts l.hyps (take l.number-index l.numbers) ≡ Some l.found.items
