-- [S]R, what is true before S where S ends and all its results meet R,
-- and its conjugate <S>R, not [S] not R (B-Book, weakest preconditions).
use Rattle.std.specs.Prelude.{ℕ, List, [], ◌∷◌, length}
use Rattle.bk_form.specs.Table.{Table}
use Rattle.bk_form.specs.Formula.{Formula, variable, named, bfalse, unary, binary, for_all, for_some}
use Rattle.bk_form.specs.Replacement.{replaced, looked_up, renamed}
use Rattle.bk_form.specs.declared.operator.UnOp.TheVariants.{Not}
use Rattle.bk_form.specs.declared.operator.BinOp.TheVariants.{And, Or, Imp, Lt, In}
use Rattle.bk_form.specs.declared.operator.Domain.TheVariants.{Natural}
use Rattle.bk_gsl.specs.Substitution.{Substitution, skip, assign, pre, guard, choice, if_else, any, seq, par, assert, becomes_such, loop}
use Rattle.bk_gsl.specs.State.{firsts}
use Rattle.bk_gsl.specs.Writes.{writes}
use Rattle.bk_gsl.specs.Run.{old_of}
use Rattle.bk_bind.specs.Closing.{closed_over_each}
use Rattle.bk_wp.specs.Quantifiers.{types_of, all_of, some_of, all_written}

-- P of x :(P) with new values bound for the variables: what stands for an old value becomes the variable
abbrev pub new_values : List (ℕ × ℕ) → Formula → Formula
new_values xs p = renamed (old_of xs) (closed_over_each (firsts xs) p)

-- !z.(P' => R')
abbrev pub all_new : Table → List (ℕ × ℕ) → Formula → Formula → Formula
all_new table xs p r = for_all (types_of table (firsts xs)) (binary Imp (new_values xs p) (closed_over_each (firsts xs) r))

-- #z.(P' & R')
abbrev pub some_new : Table → List (ℕ × ℕ) → Formula → Formula → Formula
some_new table xs p r = for_some (types_of table (firsts xs)) (binary And (new_values xs p) (closed_over_each (firsts xs) r))

-- a number that the table does not list: before a turn of a loop it stands for the value of the variant
abbrev pub variant_before : Table → ℕ
variant_before table = length table.variables

-- the five parts of a loop that writes xs: the invariant I; while the test P is true, [S]I, V : NATURAL and [n := V][S](V < n), where n
-- is new; and R, where it is false; body is [S]I, and falls is [S](V < n)
abbrev pub loop_box : Table → List ℕ → Formula → Formula → Formula → Formula → Formula → Formula → Formula
loop_box table xs p i v r body falls =
    binary And (binary And (binary And (binary And i
    (all_written table xs (binary Imp (binary And i p) body)))
    (all_written table xs (binary Imp (binary And i p) (binary In v (named Natural)))))
    (all_written table xs (binary Imp (binary And i p) (replaced (looked_up ((variant_before table, v) ∷ [])) falls))))
    (all_written table xs (binary Imp (binary And i (unary Not p)) r))

-- [S]R
abbrev pub box : Table → Substitution → Formula → Formula
box table skip r = r
box table (assign ps) r = replaced (looked_up ps) r
box table (pre p s) r = binary And p (box table s r)
box table (guard p s) r = binary Imp p (box table s r)
box table (choice s t) r = binary And (box table s r) (box table t r)
box table (if_else p s t) r = binary And (binary Imp p (box table s r)) (binary Imp (unary Not p) (box table t r))
box table (any zs s) r = all_of table zs (box table s r)
box table (seq s t) r = box table s (box table t r)
box table (assert p s) r = binary And p (binary Imp p (box table s r))
box table (becomes_such xs p) r = all_new table xs p r
box table (loop p s i v) r = loop_box table (writes s) p i v r (box table s i) (box table s (binary Lt v (variable (variant_before table))))
-- || is rewritten by copies first, so that nothing is to be said of it
box table (par s t) r = bfalse

-- <S>R
abbrev pub diamond : Table → Substitution → Formula → Formula
diamond table skip r = r
diamond table (assign ps) r = replaced (looked_up ps) r
diamond table (pre p s) r = binary Imp p (diamond table s r)
diamond table (guard p s) r = binary And p (diamond table s r)
diamond table (choice s t) r = binary Or (diamond table s r) (diamond table t r)
diamond table (if_else p s t) r = binary Or (binary And p (diamond table s r)) (binary And (unary Not p) (diamond table t r))
diamond table (any zs s) r = some_of table zs (diamond table s r)
diamond table (seq s t) r = diamond table s (diamond table t r)
diamond table (assert p s) r = binary Imp p (binary And p (diamond table s r))
diamond table (becomes_such xs p) r = some_new table xs p r
-- || is rewritten by copies first, and loops stand only in implementations, of which no diamond is asked
diamond table (par s t) r = bfalse
diamond table (loop p s i v) r = bfalse
