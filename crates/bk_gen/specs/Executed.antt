-- What the code of a unit is made for: the formulas and statements of B0, with numbers that fit their instructions.
use Rattle.std.specs.Prelude.{◌≡◌, ◌⊎◌, ◌≤◌, ◌+◌, ℕ, nat_eq, cond, ℤ, pos, List, [], ◌∷◌, ◌++◌, length, Option, Some, None, All}
use Rattle.bk_limits.specs.declared.TheConstants.{MOST_CELLS}
use Rattle.bk_form.specs.ArrayTable.{row_of}
use Rattle.bk_form.specs.Formula.{Formula, variable, literal, truth_value, element, unary, binary}
use Rattle.bk_form.specs.declared.arrays.ArrayRow.{ArrayRow}
use Rattle.bk_form.specs.declared.operator.UnOp.{UnOp}
use Rattle.bk_form.specs.declared.operator.UnOp.TheVariants.{Not, BoolOf, Neg as Negative, Single}
use Rattle.bk_form.specs.declared.operator.BinOp.{BinOp}
use Rattle.bk_form.specs.declared.operator.BinOp.TheVariants.{And, Or, Eq as Equal, Lt as Less, Le as LessOrEqual}
use Rattle.bk_form.specs.declared.operator.BinOp.TheVariants.{Add as Sum, Sub as Difference, Mul as Product, Div as Quotient}
use Rattle.bk_form.specs.declared.operator.BinOp.TheVariants.{Mod as Remainder, Apply, Times, Over, Maps}
use Rattle.bk_gsl.specs.Substitution.{Substitution, skip, assign, if_else, any, seq, assert, loop}
use Rattle.bk_dev.specs.Layout.{index_count}
use Rattle.bk_code.specs.Numbers.{IsWithin}
use Rattle.bk_code.specs.declared.instruction.Inst.{Inst}
use Rattle.bk_code.specs.declared.instruction.Inst.TheVariants.{Push, Load, Add, Sub, Mul, Div, Mod, Neg, Eq}
use Rattle.bk_code.specs.declared.instruction.Inst.TheVariants.{Lt, Le, Not as Invert, Jump, JumpZero}
use Rattle.bk_b0.specs.Kinds.{literal_number}
use Rattle.bk_b0.specs.Places.{Places, placed_load, placed_write, placed_value, fill}
use Rattle.bk_b0.specs.CodeUnit.{CodeUnit, slots_cells}

-- ---- expressions and conditions
-- a number that an instruction can hold
abbrev pub FitsPush : ℤ → Type 0
FitsPush z = IsWithin (pos 9223372036854775807) z

-- a name, a literal, TRUE, FALSE or an element
abbrev pub HasLeafCode : Formula → Type 0
HasLeafCode (variable x) = Unit {0}
HasLeafCode (literal z) = FitsPush z
HasLeafCode (truth_value b) = Unit {0}
HasLeafCode (element s i) = Unit {0}
HasLeafCode _ = ⊥

-- the instruction for a name: the value of the first constant of this number, or what this cell holds
abbrev pub constant_or_cell : ℕ → ℕ → List (ℕ × Formula) → Inst
constant_or_cell slot x [] = Load slot
constant_or_cell slot x (c ∷ cs) = cond (nat_eq x c.0) (Push (literal_number c.1)) (constant_or_cell slot x cs)

-- not, bool or unary minus
abbrev pub IsSign : UnOp → Type 0
IsSign Negative = Unit {0}
IsSign Not = Unit {0}
IsSign BoolOf = Unit {0}
IsSign _ = ⊥

-- the name of an array
abbrev pub IsArrayAt : Places → Formula → Type 0
IsArrayAt p (variable f) = (r : ArrayRow) × (p.row f ≡ Some r)
IsArrayAt p _ = ⊥

-- an operator on numbers, a comparison, & or or; or an array at an index
abbrev pub IsOperator : Places → BinOp → Formula → Type 0
IsOperator p Sum a = Unit {0}
IsOperator p Difference a = Unit {0}
IsOperator p Product a = Unit {0}
IsOperator p Quotient a = Unit {0}
IsOperator p Remainder a = Unit {0}
IsOperator p Equal a = Unit {0}
IsOperator p Less a = Unit {0}
IsOperator p LessOrEqual a = Unit {0}
IsOperator p And a = Unit {0}
IsOperator p Or a = Unit {0}
IsOperator p Apply a = IsArrayAt p a
IsOperator p _ a = ⊥

-- an executed formula
abbrev pub HasCode : Places → Formula → Type 0
HasCode p (unary o a) = HasCode p a × IsSign o
HasCode p (binary o a b) = HasCode p a × HasCode p b × IsOperator p o a
HasCode p f = HasLeafCode f

-- ---- the code of an operator
-- the instruction of not and of unary minus, and none of bool
abbrev pub sign_code : UnOp → List Inst
sign_code Negative = Neg ∷ []
sign_code Not = Invert ∷ []
sign_code o = []

-- the instruction of an operator on two numbers
abbrev pub calculation : BinOp → Inst
calculation Sum = Add
calculation Difference = Sub
calculation Product = Mul
calculation Quotient = Div
calculation Remainder = Mod
calculation Equal = Eq
calculation Less = Lt
calculation o = Le

-- pops the number of a condition and goes through the first code where it was true, and else through the second
abbrev pub fork_code : List Inst → List Inst → List Inst
fork_code first second = JumpZero (pos (length first + 2)) ∷ first ++ Jump (pos (length second + 1)) ∷ second

-- reads an array, whose index is on the stack
abbrev pub read_code : Places → Formula → List Inst
read_code p (variable f) = placed_load p f (p.row f)
read_code p a = []

-- the code of an operator on two formulas
abbrev pub operated : Places → BinOp → Formula → Formula → List Inst
operated p And a b = placed_value p a ++ fork_code (placed_value p b) (Push (pos 0) ∷ [])
operated p Or a b = placed_value p a ++ fork_code (Push (pos 1) ∷ []) (placed_value p b)
operated p Apply a b = placed_value p b ++ read_code p a
operated p o a b = placed_value p a ++ placed_value p b ++ calculation o ∷ []

-- ---- writes to arrays
-- E of {E}, and any other formula itself
abbrev pub operand_of : Formula → Formula
operand_of (unary o a) = a
operand_of f = f

-- i of i |-> v
abbrev pub left_of : Formula → Formula
left_of (binary o a b) = a
left_of f = f

-- and v of it
abbrev pub right_of : Formula → Formula
right_of (binary o a b) = b
right_of f = f

-- v of a fill D * {v}, or i |-> v of f <+ {i |-> v}
abbrev pub HasChangeCode : Places → BinOp → Formula → Type 0
HasChangeCode p Times g = HasLeafCode g
HasChangeCode p o g = HasCode p (left_of g) × HasCode p (right_of g)

-- such a term for an array
abbrev pub HasArrayCode : Places → Formula → Type 0
HasArrayCode p (binary o f g) = HasChangeCode p o (operand_of g)
HasArrayCode p f = ⊥

-- the code of a fill with a value, or of a write of i |-> v
abbrev pub change_code : Places → ℕ → ArrayRow → BinOp → Formula → List Inst
change_code p x r Times g = fill (placed_value p g) (p.first_cell x) (p.cells x)
change_code p x r o g = placed_value p (left_of g) ++ placed_value p (right_of g) ++ placed_write p x r

-- the code of such a term for an array
abbrev pub written_code : Places → ℕ → ArrayRow → Formula → List Inst
written_code p x r (binary o f g) = change_code p x r o (operand_of g)
written_code p x r f = []

-- f(i) := v, which is f := f <+ {i |-> v}
pub record IsWrite (p : Places) (x : ℕ) (f : Formula) : Type 0 where
  pub index : Formula
  pub value : Formula
  pub is : f ≡ binary Over (variable x) (unary Single (binary Maps index value))
  pub has_index : HasCode p index
  pub has_value : HasCode p value

-- f := D * {v}
pub record IsFilling (f : Formula) : Type 0 where
  pub domain : Formula
  pub value : Formula
  pub is : f ≡ binary Times domain (unary Single value)
  pub has_value : HasLeafCode value

-- ---- statements
-- what a scalar is set to, and what an array
abbrev pub HasStoreCode : Places → ℕ → Option ArrayRow → Formula → Type 0
HasStoreCode p x None f = HasCode p f
HasStoreCode p x (Some r) f = IsWrite p x f ⊎ IsFilling f

-- one variable is set
abbrev pub HasAssignmentCode : Places → List (ℕ × Formula) → Type 0
HasAssignmentCode p (a ∷ []) = HasStoreCode p a.0 (p.row a.0) a.1
HasAssignmentCode p _ = ⊥

-- an executed statement
abbrev pub HasStatementCode : Places → Substitution → Type 0
HasStatementCode p skip = Unit {0}
HasStatementCode p (assign ps) = HasAssignmentCode p ps
HasStatementCode p (seq s t) = HasStatementCode p s × HasStatementCode p t
HasStatementCode p (any zs s) = HasStatementCode p s
HasStatementCode p (assert q s) = HasStatementCode p s
HasStatementCode p (if_else q s t) = HasCode p q × HasStatementCode p s × HasStatementCode p t
HasStatementCode p (loop q s i v) = HasCode p q × HasStatementCode p s
HasStatementCode p _ = ⊥

-- ---- units
-- its cells, and those of each array, are few enough for an image, and its constants' values are literals that fit
pub record IsReady (u : CodeUnit) : Type 0 where
  pub few : slots_cells u.slots ≤ MOST_CELLS
  pub arrays : (x : ℕ) (r : ArrayRow) → row_of u.arrays x ≡ Some r → index_count u.table r.domain ≤ MOST_CELLS
  pub values : All (λ c. HasLeafCode c.1) u.values
