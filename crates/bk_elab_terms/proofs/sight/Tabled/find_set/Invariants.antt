use Rattle.std.proofs.Common.{◌≡◌, drop}
use Rattle.bk_raw.specs.Meaning.Names.{found}
use Rattle.bk_raw.specs.Meaning.ScopeReading.{set_names}
use Rattle.bk_elab_terms.proofs.sight.Tabled.find_set.Given as goal

-- none of the sets so far and of their elements has the name
abbrev pub invariant-loop-number : goal.invariant-loop-number
invariant-loop-number l = found 0 (set_names l.number (drop l.number l.self.table.now.sets)) l.text ≡ found 0 (set_names 0 l.self.table.now.sets) l.text
