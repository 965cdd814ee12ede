use Rattle.std.proofs.Common.{◌≡◌, drop}
use Rattle.bk_raw.specs.Errors.Blame.{blame, earlier}
use Rattle.bk_elab_terms.specs.Shown.{told}
use Rattle.bk_raw.specs.Trees.RawTree.{trees_of}
use Rattle.bk_check_subs.specs.Judged.{unpaired_by}
use Rattle.bk_check_subs.proofs.judging.Judge.unpaired.Given as goal

abbrev pub invariant-loop-term : goal.invariant-loop-term
invariant-loop-term l = earlier (told l.fault) (blame (unpaired_by l.self l.first 0 (trees_of (drop l.term-index l.others)))) ≡ blame (unpaired_by l.self l.first 0 (trees_of l.others))
