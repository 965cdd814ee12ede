use Rattle.std.proofs.Common.{◌≡◌, take, false}
use Rattle.bk_elab_terms.proofs.Awaited.{has_name}
use Rattle.bk_elab_terms.proofs.binder.awaiting_range.Given as goal

-- none of the names so far has the text
abbrev pub invariant-loop-place : goal.invariant-loop-place
invariant-loop-place l = has_name l.text (take l.place l.names) ≡ false
