use Rattle.std.proofs.Common.{◌≡◌, drop}
use Rattle.bk_raw.specs.Meaning.TermReading.{names_one}
use Rattle.bk_elab_terms.proofs.written.names_one.Given as goal

abbrev pub invariant-loop-name : goal.invariant-loop-name
invariant-loop-name l = names_one (drop l.name-index l.names) l.term ≡ names_one l.names l.term
