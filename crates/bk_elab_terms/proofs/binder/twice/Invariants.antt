use Rattle.std.proofs.Common.{◌≡◌, [], take, drop}
use Rattle.bk_raw.specs.Meaning.Binders.{twice}
use Rattle.bk_raw.specs.Errors.Blame.{blame, earlier}
use Rattle.bk_elab_terms.specs.Shown.{told}
use Rattle.bk_elab_terms.proofs.Twice.{texts_onto}
use Rattle.bk_elab_terms.proofs.binder.twice.Given as goal

-- what is told so far and that of those that are left is that of all
abbrev pub invariant-loop-index : goal.invariant-loop-index
invariant-loop-index l = earlier (told l.fault) (blame (twice (texts_onto [] (take l.index l.names)) (drop l.index l.names))) ≡ blame (twice [] l.names)
