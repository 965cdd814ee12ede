-- The variables that a substitution writes.
-- Source: B-Book.
use Rattle.std.specs.Prelude.{ℕ, nat_eq, nat_lt, not, cond, List, [], ◌∷◌, ◌++◌}
use Rattle.std.specs.List.{filter}
use Rattle.bk_gsl.specs.Substitution.{Substitution, skip, assign, pre, guard, choice, if_else, any, seq, par, assert, becomes_such, loop}
use Rattle.bk_gsl.specs.State.{among, firsts}

-- each variable that stands on the left of an assignment or of x :(P), without those that a binder round it binds
abbrev pub written : Substitution → List ℕ
written skip = []
written (assign ps) = firsts ps
written (pre p s) = written s
written (guard p s) = written s
written (choice s t) = written s ++ written t
written (if_else p s t) = written s ++ written t
written (any zs s) = filter (λ n. not (among zs n)) (written s)
written (seq s t) = written s ++ written t
written (par s t) = written s ++ written t
written (assert p s) = written s
written (becomes_such xs p) = firsts xs
written (loop p s i v) = written s

-- a number put into a rising list at its place, unless it stands there already
abbrev pub inserted : ℕ → List ℕ → List ℕ
inserted n [] = n ∷ []
inserted n (m ∷ ms) = cond (nat_lt n m) (n ∷ m ∷ ms) (cond (nat_eq n m) (m ∷ ms) (m ∷ inserted n ms))

-- the same numbers in rising order, each once
abbrev pub in_order : List ℕ → List ℕ
in_order [] = []
in_order (n ∷ ns) = inserted n (in_order ns)

-- the variables that it writes, in rising order, each once
abbrev pub writes : Substitution → List ℕ
writes s = in_order (written s)
