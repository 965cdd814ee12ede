use Rattle.std.proofs.Common.{◌≡◌, ◌++◌, map, take, drop}
use Rattle.bk_raw.specs.Errors.Blame.{blame, earlier}
use Rattle.bk_elab_terms.specs.Shown.{told}
use Rattle.bk_raw.specs.Meaning.Binders.{twice}
use Rattle.bk_statics.specs.Binders.{texts}
use Rattle.bk_check_clauses.proofs.name_fault.twice_behind.Given as goal

abbrev pub invariant-loop-index : goal.invariant-loop-index
invariant-loop-index l = earlier (told l.fault) (blame (twice (texts (map (λ x. x) (take l.index l.names)) ++ texts l.others) (map (λ x. x) (drop l.index l.names)))) ≡ blame (twice (texts l.others) (map (λ x. x) l.names))
