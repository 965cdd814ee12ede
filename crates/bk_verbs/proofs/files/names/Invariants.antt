use Rattle.std.proofs.Common.{◌≡◌, ◌++◌, map, drop}
use Rattle.bk_verbs.specs.Project.{files_of}
use Rattle.bk_verbs.proofs.files.names.Given as goal

-- the names so far and those of the rest are all
abbrev pub invariant-loop-line : goal.invariant-loop-line
invariant-loop-line l = map (λ name. name.now) l.names.items ++ files_of l.of_proofs (drop l.line-index l.lines) ≡ files_of l.of_proofs l.lines
