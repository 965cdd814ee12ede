use Rattle.std.proofs.Common.{◌≡◌, map, drop}
use Rattle.bk_raw.specs.Errors.Blame.{blame, earlier}
use Rattle.bk_elab_terms.specs.Shown.{told}
use Rattle.bk_check_subs.specs.Written.{writes_shown}
use Rattle.bk_statics.specs.SubFaults.{shared_faults}
use Rattle.bk_check_subs.proofs.left.shared_fault.Given as goal

abbrev pub invariant-loop-write : goal.invariant-loop-write
invariant-loop-write l = earlier (told l.fault) (blame (shared_faults (map (λ w. w.variable) l.left) (writes_shown (drop l.write-index l.right)))) ≡ blame (shared_faults (map (λ w. w.variable) l.left) (writes_shown l.right))
