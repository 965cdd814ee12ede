use Rattle.std.proofs.Common.{ℕ, ◌≡◌, ◌<◌, ◌+◌, sym, refl, List, [], ◌∷◌, ◌++◌, length, get_or, drop, map}
use Rattle.bk_dev.specs.declared.kind.Home.{Home}
use Rattle.bk_statics.specs.LevelOf.{variable_homes}
use Rattle.bk_scope.specs.Shown.{declared_shown}
use Rattle.bk_scope.specs.declared.plan.Declared.{Declared}
use Rattle.std.proofs.lemmas.List.{get_or_default}
use Rattle.bk_scope.proofs.Making.{joined-more}
use Rattle.bk_elab_level.proofs.made.push_variable_homes.Goals as goal

-- the home of one variable more
homes-more : (k : ℕ) (xs : List Declared) (i : ℕ) (d : Declared) (h : Home) (found after whole : List Home) → i < length xs → variable_homes k (declared_shown (get_or xs i d) ∷ []) ≡ h ∷ [] → after ≡ found ++ h ∷ [] →
    found ++ variable_homes k (map declared_shown (drop i xs)) ≡ whole → after ++ variable_homes k (map declared_shown (drop (i + 1) xs)) ≡ whole
homes-more k xs i d h found after whole l e a w =
    joined-more (λ (ds : List Declared). variable_homes k (map declared_shown ds)) (λ x rest. refl) xs i (get_or xs i d) found (h ∷ []) after whole l (get_or_default xs i d (get_or xs i d) l) (sym e) a w

pub loop-variable-preserved : goal.loop-variable-preserved
loop-variable-preserved c =
    homes-more c.args.level c.args.variables.now c.loop-variable.variable-index _ c.home_of.result c.loop-variable.found.items c.push.new.self.items (c.args.found.now.items ++ variable_homes c.args.level (map declared_shown c.args.variables.now))
    c.loop-variable-test.true c.home_of.ensures c.in_ok-push.ensures.items c.loop-variable.invariant
