-- The rewriting of || by copies: S || T becomes @c.(c = x ==> (S ; T with c for x)), with x the variables that S writes.
-- Source: after the B-Book's rules for ||.
use Rattle.std.specs.Prelude.{ℕ, suc, ◌+◌, nat_eq, cond, List, [], ◌∷◌, ◌++◌, length}
use Rattle.std.specs.List.{slice_get, filter_map}
use Rattle.bk_form.specs.Table.{Table}
use Rattle.bk_form.specs.Formula.{Formula, binary}
use Rattle.bk_form.specs.Replacement.{renamed}
use Rattle.bk_form.specs.declared.operator.BinOp.TheVariants.{And}
use Rattle.bk_gsl.specs.Substitution.{Substitution, skip, assign, pre, guard, choice, if_else, any, seq, par, assert, becomes_such, loop}
use Rattle.bk_gsl.specs.State.{firsts}
use Rattle.bk_gsl.specs.Writes.{writes}
use Rattle.bk_form.specs.Predicates.{equation}

-- the same in the terms of an assignment; the variables on its left stay
abbrev pub renamed_terms : (ℕ → ℕ) → List (ℕ × Formula) → List (ℕ × Formula)
renamed_terms by [] = []
renamed_terms by (p ∷ ps) = (p.0, renamed by p.1) ∷ renamed_terms by ps

-- one variable in place of another where it is read, in a substitution that neither writes nor binds the variables that are replaced
abbrev pub reading : (ℕ → ℕ) → Substitution → Substitution
reading by skip = skip
reading by (assign ps) = assign (renamed_terms by ps)
reading by (pre p s) = pre (renamed by p) (reading by s)
reading by (guard p s) = guard (renamed by p) (reading by s)
reading by (choice s t) = choice (reading by s) (reading by t)
reading by (if_else p s t) = if_else (renamed by p) (reading by s) (reading by t)
reading by (any zs s) = any zs (reading by s)
reading by (seq s t) = seq (reading by s) (reading by t)
reading by (par s t) = par (reading by s) (reading by t)
reading by (assert p s) = assert (renamed by p) (reading by s)
reading by (becomes_such xs p) = becomes_such xs (renamed by p)
reading by (loop p s i v) = loop (renamed by p) (reading by s) (renamed by i) (renamed by v)

-- copies of the variables, numbered from k on: each copy with its variable
abbrev pub copies_from : ℕ → List ℕ → List (ℕ × ℕ)
copies_from k [] = []
copies_from k (x ∷ xs) = (k, x) ∷ copies_from (suc k) xs

-- the copy of a variable, and the variable itself where it has none
abbrev pub copy_of : List (ℕ × ℕ) → ℕ → ℕ
copy_of [] n = n
copy_of (p ∷ ps) n = cond (nat_eq n p.1) p.0 (copy_of ps n)

-- the equations c = x, joined to the left
abbrev pub equations_onto : Formula → List (ℕ × ℕ) → Formula
equations_onto f [] = f
equations_onto f (p ∷ ps) = equations_onto (binary And f (equation p)) ps

-- the two sides one after the other, the second reading the copies; where the first writes nothing there are none
abbrev pub by_copies : List (ℕ × ℕ) → Substitution → Substitution → Substitution
by_copies [] s t = seq s t
by_copies (p ∷ ps) s t = any (firsts (p ∷ ps)) (guard (equations_onto (equation p) ps) (seq s (reading (copy_of (p ∷ ps)) t)))

-- the variables that are copied, in the order of their copies' numbers
abbrev pub copied : Substitution → List ℕ
copied (pre p s) = copied s
copied (guard p s) = copied s
copied (choice s t) = copied s ++ copied t
copied (if_else p s t) = copied s ++ copied t
copied (any zs s) = copied s
copied (seq s t) = copied s ++ copied t
copied (par s t) = copied s ++ copied t ++ writes s
copied (assert p s) = copied s
copied (loop p s i v) = copied s
copied _ = []

-- the substitution without ||, where numbers from k on are new
abbrev pub flat_from : ℕ → Substitution → Substitution
flat_from k (pre p s) = pre p (flat_from k s)
flat_from k (guard p s) = guard p (flat_from k s)
flat_from k (choice s t) = choice (flat_from k s) (flat_from (k + length (copied s)) t)
flat_from k (if_else p s t) = if_else p (flat_from k s) (flat_from (k + length (copied s)) t)
flat_from k (any zs s) = any zs (flat_from k s)
flat_from k (seq s t) = seq (flat_from k s) (flat_from (k + length (copied s)) t)
flat_from k (par s t) =
    by_copies (copies_from (k + length (copied s) + length (copied t)) (writes s)) (flat_from k s) (flat_from (k + length (copied s)) t)
flat_from k (assert p s) = assert p (flat_from k s)
flat_from k (loop p s i v) = loop p (flat_from k s) i v
flat_from k s = s

-- the rewriting; the copies are new numbers after the table's
abbrev pub flat : Table → Substitution → Substitution
flat table s = flat_from (length table.variables) s

-- the table with an entry for each copy: that of the variable which it copies
abbrev pub flat_table : Table → Substitution → Table
flat_table table s = record table { variables = table.variables ++ filter_map (slice_get table.variables) (copied s) }

-- no || stands in it
abbrev pub IsFlat : Substitution → Type 0
IsFlat (pre p s) = IsFlat s
IsFlat (guard p s) = IsFlat s
IsFlat (choice s t) = IsFlat s × IsFlat t
IsFlat (if_else p s t) = IsFlat s × IsFlat t
IsFlat (any zs s) = IsFlat s
IsFlat (seq s t) = IsFlat s × IsFlat t
IsFlat (assert p s) = IsFlat s
IsFlat (loop p s i v) = IsFlat s
IsFlat (par s t) = ⊥
IsFlat _ = Unit {0}
