use Rattle.std.proofs.Common.{◌≡◌, drop}
use Rattle.bk_raw.specs.Errors.Blame.{blame, earlier}
use Rattle.bk_elab_terms.specs.Shown.{told}
use Rattle.bk_raw.specs.Trees.RawTree.{trees_of}
use Rattle.bk_statics.specs.SubFaults.{first_place}
use Rattle.bk_check_subs.specs.Judged.{paired_by}
use Rattle.bk_check_subs.proofs.judging.Judge.paired.Given as goal

abbrev pub invariant-loop-index : goal.invariant-loop-index
invariant-loop-index l = earlier (told l.fault) (blame (paired_by l.self (first_place l.names) (drop l.index l.names) (trees_of (drop l.index l.terms)))) ≡ blame (paired_by l.self (first_place l.names) l.names (trees_of l.terms))
