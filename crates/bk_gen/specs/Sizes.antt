-- How many instructions the code of a formula or a statement has, counted before it is made.
use Rattle.std.specs.Prelude.{ℕ, ◌+◌, List, [], ◌∷◌, Option, Some, None}
use Rattle.bk_form.specs.Formula.{Formula, unary, binary}
use Rattle.bk_form.specs.declared.arrays.ArrayRow.{ArrayRow}
use Rattle.bk_form.specs.declared.operator.UnOp.{UnOp}
use Rattle.bk_form.specs.declared.operator.UnOp.TheVariants.{BoolOf}
use Rattle.bk_form.specs.declared.operator.BinOp.{BinOp}
use Rattle.bk_form.specs.declared.operator.BinOp.TheVariants.{And, Or, Apply, Times}
use Rattle.bk_gsl.specs.Substitution.{Substitution, assign, if_else, any, seq, assert, loop}
use Rattle.bk_dev.specs.Development.{Body}
use Rattle.bk_b0.specs.Places.{Places}
use Rattle.bk_gen.specs.Executed.{operand_of, left_of, right_of}

-- how many instructions an operator on one formula has beside those of its operand
abbrev pub sign_size : UnOp → ℕ
sign_size BoolOf = 0
sign_size o = 1

-- and an operator on two formulas; an array's name has one, which reads it
abbrev pub operator_size : BinOp → ℕ
operator_size And = 3
operator_size Or = 3
operator_size Apply = 0
operator_size o = 1

-- how many the code of an expression or a condition has
abbrev pub value_size : Formula → ℕ
value_size (unary o a) = value_size a + sign_size o
value_size (binary o a b) = value_size a + value_size b + operator_size o
value_size f = 1

-- of a fill of so many cells, which has two for each cell, or of a write of i |-> v
abbrev pub change_size : ℕ → BinOp → Formula → ℕ
change_size cells Times g = cells + cells
change_size cells o g = value_size (left_of g) + value_size (right_of g) + 1

-- of writing to an array with so many cells
abbrev pub written_size : ℕ → Formula → ℕ
written_size cells (binary o f g) = change_size cells o (operand_of g)
written_size cells f = 0

-- of setting a scalar or an array
abbrev pub store_size : ℕ → Option ArrayRow → Formula → ℕ
store_size cells None f = value_size f + 1
store_size cells (Some r) f = written_size cells f

-- of an assignment to one variable
abbrev pub assignment_size : Places → List (ℕ × Formula) → ℕ
assignment_size p (a ∷ []) = store_size (p.cells a.0) (p.row a.0) a.1
assignment_size p _ = 0

-- of a statement
abbrev pub statement_size : Places → Substitution → ℕ
statement_size p (assign ps) = assignment_size p ps
statement_size p (seq s t) = statement_size p s + statement_size p t
statement_size p (any zs s) = statement_size p s
statement_size p (assert q s) = statement_size p s
statement_size p (if_else q s t) = value_size q + (statement_size p s + statement_size p t) + 2
statement_size p (loop q s i v) = value_size q + statement_size p s + 2
statement_size p s = 0

-- of a block, with its Ret
abbrev pub block_size : Places → Substitution → ℕ
block_size p s = statement_size p s + 1

-- of the blocks of bodies together
abbrev pub blocks_size : Places → List Body → ℕ
blocks_size p [] = 0
blocks_size p (b ∷ bs) = block_size p b.sub + blocks_size p bs
