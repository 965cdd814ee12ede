use Rattle.std.proofs.Common.{◌≡◌, take}
use Rattle.bk_kernel.specs.Naming.{names_of}
use Rattle.bk_auto.proofs.easy.terms_of.Given as goal

abbrev pub invariant-loop-name : goal.invariant-loop-name
invariant-loop-name l = l.terms.items ≡ names_of (take l.name-index l.names)
