-- Locals that nothing outside their scope reads, so that a binder catches no other variable.
use Rattle.std.specs.Prelude.{◌≡◌, ℕ, Bool, true, false, ◌||◌}
use Rattle.bk_form.specs.Formula.{Formula}
use Rattle.bk_form.specs.Replacement.{occurs}
use Rattle.bk_gsl.specs.Substitution.{Substitution, skip, assign, pre, guard, choice, if_else, any, seq, par, assert, becomes_such, loop}
use Rattle.bk_gsl.specs.State.{among}
use Rattle.bk_gsl.specs.Reads.{read}

-- no local is read after its scope, where later says which variables are read after the whole
abbrev pub AreApart : (ℕ → Bool) → Substitution → Type 0
AreApart later skip = Unit {0}
AreApart later (assign ps) = Unit {0}
AreApart later (pre p s) = AreApart later s
AreApart later (guard p s) = AreApart later s
AreApart later (choice s t) = AreApart later s × AreApart later t
AreApart later (if_else p s t) = AreApart later s × AreApart later t
AreApart later (any zs s) = ((n : ℕ) → among zs n ≡ true → later n ≡ false) × AreApart later s
AreApart later (seq s t) = AreApart (λ n. later n || among (read t) n) s × AreApart later t
AreApart later (par s t) = AreApart later s × AreApart later t
AreApart later (assert p s) = AreApart later s
AreApart later (becomes_such xs p) = Unit {0}
-- after a turn the invariant and the variant are read
AreApart later (loop p s i v) = AreApart (λ n. occurs n i || occurs n v) s

-- no local is read after its scope, and none stands in the formula
abbrev pub LocalsAreApart : Substitution → Formula → Type 0
LocalsAreApart s r = AreApart (λ n. occurs n r) s
