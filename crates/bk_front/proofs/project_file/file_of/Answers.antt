use Rattle.std.proofs.Common.{List, ℕ, MatchOption, subst}
use Rattle.bk_front.specs.ProjectFile.{IsLine}
use Rattle.bk_front.proofs.project_file.file_of.Goals as goal

pub returns : goal.returns
returns c = subst (λ word. MatchOption c.file_name.result ((name : List ℕ) → IsLine word name c.args.line.now → ⊥) (λ name. IsLine word name.now c.args.line.now)) c.word.ensures c.file_name.ensures
