use Rattle.std.proofs.Common.{◌≡◌, take}
use Rattle.bk_p_proof.specs.Keys.{NameFits, name_key}
use Rattle.bk_p_proof.proofs.differing.key_of.Given as goal

abbrev pub invariant-loop-part : goal.invariant-loop-part
invariant-loop-part l = record { keyed : l.key.items ≡ name_key (take l.part-index l.name); fit : NameFits (take l.part-index l.name) }
