-- W(S), what a substitution is asked beside its box: that each formula that it meets is defined or, in an implementation, that the
-- expressions which it executes fit the machine instead.
-- Source: after the B-Book's well-definedness.
use Rattle.std.specs.Prelude.{ℕ, List, [], ◌∷◌, Option, Some, None}
use Rattle.bk_form.specs.Table.{Table}
use Rattle.bk_form.specs.ArrayTable.{ArrayTable, row_of}
use Rattle.bk_form.specs.Formula.{Formula, btrue, unary}
use Rattle.bk_form.specs.Role.{bind}
use Rattle.bk_form.specs.declared.operator.UnOp.TheVariants.{Not}
use Rattle.bk_form.specs.declared.arrays.ArrayRow.{ArrayRow}
use Rattle.bk_wd.specs.Joining.{both, where_true, all_over}
use Rattle.bk_wd.specs.WellDefined.{defined}
use Rattle.bk_wd.specs.Checked.{index_check, checked}
use Rattle.bk_gsl.specs.Substitution.{Substitution, skip, assign, pre, guard, choice, if_else, any, seq, par, assert, becomes_such, loop}
use Rattle.bk_gsl.specs.State.{firsts}
use Rattle.bk_gsl.specs.Writes.{writes}
use Rattle.bk_gsl.specs.Clean.{write_of}
use Rattle.bk_wp.specs.Quantifiers.{types_of, all_of, all_written}
use Rattle.bk_wp.specs.Box.{box, new_values}

-- ---- conditions put together, without btrue
-- !z.P over variables, and btrue where P is
abbrev pub over_variables : Table → List ℕ → Formula → Formula
over_variables table zs btrue = btrue
over_variables table zs p = all_of table zs p

-- the same over what a loop writes: no quantifier where it writes nothing
abbrev pub over_written : Table → List ℕ → Formula → Formula
over_written table zs btrue = btrue
over_written table zs p = all_written table zs p

-- [S]Q, and btrue where Q is
abbrev pub box_where : Table → Substitution → Formula → Formula
box_where table s btrue = btrue
box_where table s q = box table s q

-- ---- what is evaluated
-- C(P), of a test: Chk(P) where arrays are given, in an implementation, and WD(P) elsewhere
abbrev pub evaluated : Table → Option ArrayTable → Formula → Formula
evaluated table None p = defined table [] p
evaluated table (Some arrays) p = checked arrays p

-- of a write f(i) := E to an array: Chk(i), that i is an index, and Chk(E); of every other term for it, as a fill of it, Chk of the term
abbrev pub checked_write : ArrayTable → ArrayRow → Option (Formula × Formula) → Formula → Formula
checked_write arrays row (Some w) f = both (both (checked arrays w.0) (index_check (Some row) w.0)) (checked arrays w.1)
checked_write arrays row None f = checked arrays f

-- the term for x in an implementation, where this is the row of x among the arrays
abbrev pub checked_at : ArrayTable → Option ArrayRow → ℕ → Formula → Formula
checked_at arrays None x f = checked arrays f
checked_at arrays (Some row) x f = checked_write arrays row (write_of x f) f

-- C(E), of the term of an assignment to x
abbrev pub evaluated_term : Table → Option ArrayTable → ℕ → Formula → Formula
evaluated_term table None x f = defined table [] f
evaluated_term table (Some arrays) x f = checked_at arrays (row_of arrays x) x f

-- f, and C of each term of an assignment, joined to the left
abbrev pub evaluated_onto : Table → Option ArrayTable → Formula → List (ℕ × Formula) → Formula
evaluated_onto table arrays f [] = f
evaluated_onto table arrays f (p ∷ ps) = evaluated_onto table arrays (both f (evaluated_term table arrays p.0 p.1)) ps

-- ---- substitutions
-- !z.WD(P') of x :(P), where P' is P with new values z for the variables
abbrev pub such_condition : Table → List (ℕ × ℕ) → Formula → Formula
such_condition table xs p = all_over (types_of table (firsts xs)) (defined table (bind (types_of table (firsts xs)) []) (new_values xs p))

-- WD(I), for each value of what a loop writes, and where I is true C(P) and, where P is true, W(S) and WD(V); c is C(P), and w is W(S)
abbrev pub loop_condition : Table → List ℕ → Formula → Formula → Formula → Formula → Formula → Formula
loop_condition table xs p i v c w =
    both (over_written table xs (defined table [] i))
    (over_written table xs (where_true i (both c (where_true p (both w (defined table [] v))))))

-- W(S), as a predicate on the state before S; arrays are given in an implementation
abbrev pub guarded : Table → Option ArrayTable → Substitution → Formula
guarded table arrays skip = btrue
guarded table arrays (assign ps) = evaluated_onto table arrays btrue ps
guarded table arrays (pre p s) = both (defined table [] p) (where_true p (guarded table arrays s))
guarded table arrays (guard p s) = both (defined table [] p) (where_true p (guarded table arrays s))
guarded table arrays (choice s t) = both (guarded table arrays s) (guarded table arrays t)
guarded table arrays (if_else p s t) =
    both (both (evaluated table arrays p) (where_true p (guarded table arrays s))) (where_true (unary Not p) (guarded table arrays t))
guarded table arrays (any zs s) = over_variables table zs (guarded table arrays s)
guarded table arrays (seq s t) = both (guarded table arrays s) (box_where table s (guarded table arrays t))
guarded table arrays (assert p s) = both (defined table [] p) (where_true p (guarded table arrays s))
guarded table arrays (becomes_such xs p) = such_condition table xs p
guarded table arrays (loop p s i v) = loop_condition table (writes s) p i v (evaluated table arrays p) (guarded table arrays s)
-- || is rewritten by copies first, so that nothing is to be said of it
guarded table arrays (par s t) = btrue
