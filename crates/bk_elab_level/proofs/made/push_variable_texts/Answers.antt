use Rattle.std.proofs.Common.{ℕ, ◌≡◌, ◌<◌, ◌+◌, ap, refl, List, [], ◌∷◌, ◌++◌, length, get_or, drop, map}
use Rattle.std.proofs.lemmas.List.{get_or_default}
use Rattle.bk_raw.specs.Meaning.Names.{level_name}
use Rattle.bk_statics.specs.LevelOf.{at_level}
use Rattle.bk_statics.specs.Plan.{declared_texts}
use Rattle.bk_scope.specs.Shown.{declared_shown}
use Rattle.bk_scope.specs.declared.plan.Declared.{Declared}
use Rattle.bk_scope.proofs.Making.{joined-more}
use Rattle.bk_elab_level.proofs.made.push_variable_texts.Goals as goal

-- the text of one variable more
texts-more : (k : ℕ) (xs : List Declared) (i : ℕ) (d : Declared) (t : List ℕ) (found after whole : List (List ℕ)) → i < length xs → t ≡ level_name (get_or xs i d).text.now k → after ≡ found ++ t ∷ [] →
    found ++ at_level k (declared_texts (map declared_shown (drop i xs))) ≡ whole → after ++ at_level k (declared_texts (map declared_shown (drop (i + 1) xs))) ≡ whole
texts-more k xs i d t found after whole l e a h =
    joined-more (λ (ds : List Declared). at_level k (declared_texts (map declared_shown ds))) (λ x rest. refl) xs i (get_or xs i d) found (t ∷ []) after whole l (get_or_default xs i d (get_or xs i d) l) (ap (λ (u : List ℕ). u ∷ []) e) a h

pub loop-variable-preserved : goal.loop-variable-preserved
loop-variable-preserved c =
    texts-more c.args.level c.args.variables.now c.loop-variable.variable-index _ c.in_ok-at_level.field-0 c.loop-variable.found.items c.push.new.self.items (c.args.found.now.items ++ at_level c.args.level (declared_texts (map declared_shown c.args.variables.now)))
    c.loop-variable-test.true c.in_ok-at_level.ensures c.in_ok-push.ensures.items c.loop-variable.invariant
