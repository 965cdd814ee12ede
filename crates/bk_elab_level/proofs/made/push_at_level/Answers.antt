use Rattle.std.proofs.Common.{ℕ, ◌∙◌, ap, refl, List, [], ◌∷◌, ◌++◌}
use Rattle.bk_raw.specs.declared.term.RawName.{RawName}
use Rattle.bk_raw.specs.Meaning.Names.{level_name}
use Rattle.bk_statics.specs.Binders.{texts}
use Rattle.bk_statics.specs.LevelOf.{at_level}
use Rattle.bk_scope.proofs.Making.{joined-more}
use Rattle.bk_elab_level.proofs.made.push_at_level.Goals as goal

pub loop-name-preserved : goal.loop-name-preserved
loop-name-preserved c =
    joined-more (λ (xs : List RawName). at_level c.args.level (texts xs)) (λ x xs. refl) c.args.names.now c.loop-name.name-index c.name-item.result c.loop-name.found.items (c.in_ok-at_level.field-0 ∷ []) c.push.new.self.items
    (c.args.found.now.items ++ at_level c.args.level (texts c.args.names.now))
    c.loop-name-test.true c.name-item.is (ap (λ (t : List ℕ). t ∷ []) (c.in_ok-at_level.ensures ∙ ap (λ (t : List ℕ). level_name t c.args.level) c.as_bytes.ensures.value)) c.in_ok-push.ensures.items c.loop-name.invariant
