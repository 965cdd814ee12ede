use Rattle.std.proofs.Common.{◌≡◌, ◌++◌, drop}
use Rattle.bk_elab_terms.specs.Visible.{visible_names}
use Rattle.bk_check_subs.specs.Written.{writes_shown}
use Rattle.bk_statics.specs.SubFaults.{written_names}
use Rattle.bk_check_subs.proofs.left.push_written.Given as goal

abbrev pub invariant-loop-name : goal.invariant-loop-name
invariant-loop-name l = writes_shown l.found.items ++ written_names (visible_names l.names) (drop l.name-index l.written) ≡ writes_shown l.fn.found.items ++ written_names (visible_names l.names) l.written
