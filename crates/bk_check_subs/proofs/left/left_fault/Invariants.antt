use Rattle.std.proofs.Common.{◌≡◌, [], drop}
use Rattle.bk_elab_terms.specs.Visible.{visible_names}
use Rattle.bk_raw.specs.Errors.Blame.{blame, earlier}
use Rattle.bk_elab_terms.specs.Shown.{told}
use Rattle.bk_check_subs.specs.Written.{writable_by}
use Rattle.bk_statics.specs.SubFaults.{left_faults}
use Rattle.bk_check_subs.proofs.left.left_fault.Given as goal

abbrev pub invariant-loop-name : goal.invariant-loop-name
invariant-loop-name l = earlier (told l.fault) (blame (left_faults (visible_names l.names) (writable_by l.writable) l.before.items (drop l.name-index l.written))) ≡ blame (left_faults (visible_names l.names) (writable_by l.writable) [] l.written)
