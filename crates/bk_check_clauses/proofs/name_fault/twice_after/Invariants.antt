use Rattle.std.proofs.Common.{◌≡◌, ◌++◌, map, take, drop}
use Rattle.bk_raw.specs.Errors.Blame.{blame, earlier}
use Rattle.bk_elab_terms.specs.Shown.{told}
use Rattle.bk_elab_terms.specs.Visible.{visible_names}
use Rattle.bk_raw.specs.Meaning.Binders.{twice}
use Rattle.bk_statics.specs.Binders.{texts}
use Rattle.bk_statics.specs.NameFaults.{named_texts}
use Rattle.bk_check_clauses.proofs.name_fault.twice_after.Given as goal

abbrev pub invariant-loop-index : goal.invariant-loop-index
invariant-loop-index l = earlier (told l.fault) (blame (twice (texts (map (λ x. x.now) (take l.index l.names)) ++ named_texts (visible_names l.others)) (map (λ x. x.now) (drop l.index l.names)))) ≡ blame (twice (named_texts (visible_names l.others)) (map (λ x. x.now) l.names))
