use Rattle.std.proofs.Common.{ℕ, ap, refl, List, [], ◌∷◌, ◌++◌}
use Rattle.std.specs.Borrow.{Bor}
use Rattle.bk_raw.specs.declared.term.RawName.{RawName}
use Rattle.bk_statics.specs.Binders.{texts}
use Rattle.bk_scope.specs.Shown.{refs}
use Rattle.bk_scope.proofs.Making.{joined-more}
use Rattle.bk_elab_level.proofs.made.push_constant_texts.Goals as goal

pub loop-constant-preserved : goal.loop-constant-preserved
loop-constant-preserved c =
    joined-more (λ (xs : List (Bor RawName)). texts (refs xs)) (λ x xs. refl) c.args.constants.now c.loop-constant.constant-index c.constant-item.result c.loop-constant.found.items (c.in_ok-copy.field-0 ∷ []) c.push.new.self.items (c.args.found.now.items ++ texts (refs c.args.constants.now))
    c.loop-constant-test.true c.constant-item.is (ap (λ (t : List ℕ). t ∷ []) c.in_ok-copy.ensures) c.in_ok-push.ensures.items c.loop-constant.invariant
