use Rattle.std.proofs.Common.{◌≡◌, drop}
use Rattle.bk_raw.specs.Meaning.Names.{found}
use Rattle.bk_elab_terms.specs.Visible.{seen_names}
use Rattle.bk_elab_terms.proofs.sight.find_visible.Given as goal

-- none of the names so far has the text
abbrev pub invariant-loop-name : goal.invariant-loop-name
invariant-loop-name l = found 0 (seen_names l.types (drop l.name-index l.names)) l.text ≡ found 0 (seen_names l.types l.names) l.text
