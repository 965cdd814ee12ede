use Rattle.std.proofs.Common.{◌≡◌, drop}
use Rattle.bk_elab_terms.specs.Kept.{names_dollar}
use Rattle.bk_elab_terms.proofs.dollar.names_dollar.Given as goal

abbrev pub invariant-loop-name : goal.invariant-loop-name
invariant-loop-name l = names_dollar (drop l.name-index l.names) ≡ names_dollar l.names
