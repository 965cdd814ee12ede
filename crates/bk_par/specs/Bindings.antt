-- The variables that a substitution binds.
use Rattle.std.specs.Prelude.{ℕ, List, [], ◌∷◌, ◌++◌}
use Rattle.bk_gsl.specs.Substitution.{Substitution, pre, guard, choice, if_else, any, seq, par, assert, becomes_such, loop}
use Rattle.bk_gsl.specs.State.{among}
use Rattle.bk_gsl.specs.Writes.{written}
use Rattle.bk_gsl.specs.Avoids.{NoneIn}

-- the second of each pair: the numbers that stand for old values in x :(P)
abbrev pub seconds : List (ℕ × ℕ) → List ℕ
seconds [] = []
seconds (p ∷ ps) = p.1 ∷ seconds ps

-- its locals, and the numbers that stand for old values
abbrev pub bound_in : Substitution → List ℕ
bound_in (pre p s) = bound_in s
bound_in (guard p s) = bound_in s
bound_in (choice s t) = bound_in s ++ bound_in t
bound_in (if_else p s t) = bound_in s ++ bound_in t
bound_in (any zs s) = zs ++ bound_in s
bound_in (seq s t) = bound_in s ++ bound_in t
bound_in (par s t) = bound_in s ++ bound_in t
bound_in (assert p s) = bound_in s
bound_in (becomes_such xs p) = seconds xs
bound_in (loop p s i v) = bound_in s
bound_in _ = []

-- at each ||, the right side binds nothing that the left side writes; so
-- it is where each variable that is bound stands only inside its binder
abbrev pub BindsApart : Substitution → Type 0
BindsApart (pre p s) = BindsApart s
BindsApart (guard p s) = BindsApart s
BindsApart (choice s t) = BindsApart s × BindsApart t
BindsApart (if_else p s t) = BindsApart s × BindsApart t
BindsApart (any zs s) = BindsApart s
BindsApart (seq s t) = BindsApart s × BindsApart t
BindsApart (par s t) = BindsApart s × BindsApart t × NoneIn (λ n. among (written s) n) (bound_in t)
BindsApart (assert p s) = BindsApart s
BindsApart (loop p s i v) = BindsApart s
BindsApart _ = Unit {0}
