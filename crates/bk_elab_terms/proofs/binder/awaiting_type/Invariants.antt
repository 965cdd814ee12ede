use Rattle.std.proofs.Common.{◌≡◌, take, false}
use Rattle.bk_elab_terms.proofs.Awaited.{has_text}
use Rattle.bk_elab_terms.proofs.binder.awaiting_type.Given as goal

-- none of the names so far has the text
abbrev pub invariant-loop-place : goal.invariant-loop-place
invariant-loop-place l = has_text l.text (take l.place l.locals) ≡ false
