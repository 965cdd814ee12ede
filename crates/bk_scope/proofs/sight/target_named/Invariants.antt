use Rattle.std.proofs.Common.{◌≡◌, drop}
use Rattle.bk_elab_terms.specs.Visible.{visible_names}
use Rattle.bk_statics.specs.Typings.{target}
use Rattle.bk_scope.proofs.sight.target_named.Given as goal

abbrev pub invariant-loop-name : goal.invariant-loop-name
invariant-loop-name l = target (visible_names (drop l.name-index l.names)) l.text ≡ target (visible_names l.names) l.text
