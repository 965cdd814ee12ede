-- Variables that both sides of a || write: they have no one result.
use Rattle.std.specs.Prelude.{◌≡◌, ◌≤◌, ℕ, nat_lt, true, cond, List, [], ◌∷◌, ◌++◌, Option, Some, None}
use Rattle.std.specs.List.{filter}
use Rattle.bk_gsl.specs.Substitution.{Substitution, pre, guard, choice, if_else, any, seq, par, assert, loop}
use Rattle.bk_gsl.specs.State.{among}
use Rattle.bk_gsl.specs.Writes.{writes}

-- those of the first that are in the second too
abbrev pub shared : List ℕ → List ℕ → List ℕ
shared xs ys = filter (λ n. among ys n) xs

-- for each ||, what its left side and its right side both write
abbrev pub overlaps : Substitution → List ℕ
overlaps (pre p s) = overlaps s
overlaps (guard p s) = overlaps s
overlaps (choice s t) = overlaps s ++ overlaps t
overlaps (if_else p s t) = overlaps s ++ overlaps t
overlaps (any zs s) = overlaps s
overlaps (seq s t) = overlaps s ++ overlaps t
overlaps (par s t) = overlaps s ++ overlaps t ++ shared (writes s) (writes t)
overlaps (assert p s) = overlaps s
overlaps (loop p s i v) = overlaps s
overlaps _ = []

-- the number is in the list, and no smaller one is
pub record IsLeast (ns : List ℕ) (v : ℕ) : Type 0 where
  pub listed : among ns v ≡ true
  pub smallest : (n : ℕ) → among ns n ≡ true → v ≤ n

-- the smallest of a number and those of a list
abbrev pub least_onto : ℕ → List ℕ → ℕ
least_onto b [] = b
least_onto b (n ∷ ns) = least_onto (cond (nat_lt n b) n b) ns

-- the smallest number of a list, if there is one
abbrev pub least_of : List ℕ → Option ℕ
least_of [] = None
least_of (n ∷ ns) = Some (least_onto n ns)
