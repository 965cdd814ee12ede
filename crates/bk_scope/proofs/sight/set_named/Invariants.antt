use Rattle.std.proofs.Common.{◌≡◌, drop}
use Rattle.bk_elab_terms.specs.Visible.{visible_names}
use Rattle.bk_statics.specs.Typings.{set_named}
use Rattle.bk_scope.proofs.sight.set_named.Given as goal

abbrev pub invariant-loop-name : goal.invariant-loop-name
invariant-loop-name l = set_named (visible_names (drop l.name-index l.names)) l.text ≡ set_named (visible_names l.names) l.text
