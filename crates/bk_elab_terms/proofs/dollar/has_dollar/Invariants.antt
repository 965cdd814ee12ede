use Rattle.std.proofs.Common.{◌≡◌, drop}
use Rattle.bk_elab_terms.specs.Kept.{has_dollar}
use Rattle.bk_elab_terms.proofs.dollar.has_dollar.Given as goal

abbrev pub invariant-loop-byte : goal.invariant-loop-byte
invariant-loop-byte l = has_dollar (drop l.byte-index l.text) ≡ has_dollar l.text
