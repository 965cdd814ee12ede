-- What the translation asks of names, and the code over it, as lists of instructions.
use Rattle.std.specs.Prelude.{ℕ, zero, suc, ◌+◌, ℤ, pos, neg_ℤ, cond, nat_eq, List, [], ◌∷◌, ◌++◌, map, length, Option, Some, None}
use Rattle.bk_val.specs.ValueType.{ValueType, bool_type, enum_type}
use Rattle.bk_form.specs.Formula.{Formula, variable, unary, binary}
use Rattle.bk_form.specs.declared.operator.UnOp.TheVariants.{Not, BoolOf, Neg as Negative, Single}
use Rattle.bk_form.specs.declared.operator.BinOp.TheVariants.{And, Or, Eq as Equal, Lt as Less, Le as LessOrEqual, Add as Sum}
use Rattle.bk_form.specs.declared.operator.BinOp.TheVariants.{Sub as Difference, Mul as Product, Div as Quotient, Mod as Remainder, Apply}
use Rattle.bk_form.specs.declared.operator.BinOp.TheVariants.{Times}
use Rattle.bk_form.specs.declared.arrays.ArrayRow.{ArrayRow}
use Rattle.bk_form.specs.declared.arrays.ArrayDomain.{ArrayDomain}
use Rattle.bk_form.specs.declared.arrays.ArrayDomain.TheVariants.{Interval, Bool as OfBooleans, Set as OfElements}
use Rattle.bk_gsl.specs.Substitution.{Substitution, skip, assign, if_else, any, seq, assert, loop}
use Rattle.bk_gsl.specs.Clean.{write_of}
use Rattle.bk_dev.specs.Development.{Head, Body}
use Rattle.bk_code.specs.declared.image.OpEntry.{OpEntry}
use Rattle.bk_code.specs.declared.image.Parameter.{Parameter}
use Rattle.bk_code.specs.declared.image.CellKind.{CellKind}
use Rattle.bk_code.specs.declared.image.CellKind.TheVariants.{Integer, Bool as BoolKind, Set}
use Rattle.bk_code.specs.declared.instruction.Inst.{Inst}
use Rattle.bk_code.specs.declared.instruction.Inst.TheVariants.{Push, Load, Store, ALoad, AStore, Add, Sub, Mul, Div, Mod}
use Rattle.bk_code.specs.declared.instruction.Inst.TheVariants.{Neg, Eq, Lt, Le, Not as Invert, Jump, JumpZero, Ret}
use Rattle.bk_b0.specs.Kinds.{literal_number}

-- the constants with their values; of a variable its row where it is an array, its first cell, how many cells it has and what
-- each of them holds
pub record Places : Type 0 where
  pub values : List (ℕ × Formula)
  pub row : ℕ → Option ArrayRow
  pub first_cell : ℕ → ℕ
  pub cells : ℕ → ℕ
  pub kind : ℕ → CellKind

-- a cell holds a truth value, an element of an enumerated set or a whole number
abbrev pub kind_of_type : ValueType → CellKind
kind_of_type bool_type = BoolKind
kind_of_type (enum_type s) = Set s
kind_of_type t = Integer

-- ---- expressions and conditions
-- a constant is its value, every other name the number in its cell
abbrev pub placed_name : Places → ℕ → List (ℕ × Formula) → List Inst
placed_name p x [] = Load (p.first_cell x) ∷ []
placed_name p x (c ∷ cs) = cond (nat_eq x c.0) (Push (literal_number c.1) ∷ []) (placed_name p x cs)

-- the least index of an array; FALSE and the first element have index 0
abbrev pub least_index : ArrayDomain → ℤ
least_index (Interval low high) = low
least_index OfBooleans = pos 0
least_index (OfElements n) = pos 0

-- the operands of an array's instructions: its first cell, its least index and how many elements it has
abbrev pub placed_load : Places → ℕ → Option ArrayRow → List Inst
placed_load p f (Some row) = ALoad (p.first_cell f) (least_index row.domain) (p.cells f) ∷ []
placed_load p f None = []

-- the instruction that stores a value at an index of the array, with the same operands
abbrev pub placed_write : Places → ℕ → ArrayRow → List Inst
placed_write p f row = AStore (p.first_cell f) (least_index row.domain) (p.cells f) ∷ []

-- the code that leaves an executed formula's number on the stack, 0 or 1 for a condition
abbrev pub placed_value : Places → Formula → List Inst
placed_value p (variable x) = placed_name p x p.values
placed_value p (unary Negative a) = placed_value p a ++ Neg ∷ []
placed_value p (unary Not a) = placed_value p a ++ Invert ∷ []
placed_value p (unary BoolOf a) = placed_value p a
placed_value p (binary Sum a b) = placed_value p a ++ placed_value p b ++ Add ∷ []
placed_value p (binary Difference a b) = placed_value p a ++ placed_value p b ++ Sub ∷ []
placed_value p (binary Product a b) = placed_value p a ++ placed_value p b ++ Mul ∷ []
placed_value p (binary Quotient a b) = placed_value p a ++ placed_value p b ++ Div ∷ []
placed_value p (binary Remainder a b) = placed_value p a ++ placed_value p b ++ Mod ∷ []
placed_value p (binary Equal a b) = placed_value p a ++ placed_value p b ++ Eq ∷ []
placed_value p (binary Less a b) = placed_value p a ++ placed_value p b ++ Lt ∷ []
placed_value p (binary LessOrEqual a b) = placed_value p a ++ placed_value p b ++ Le ∷ []
placed_value p (binary And a b) = let second = placed_value p b in
    placed_value p a ++ JumpZero (pos (length second + 2)) ∷ second ++ Jump (pos 2) ∷ Push (pos 0) ∷ []
placed_value p (binary Or a b) = let second = placed_value p b in
    placed_value p a ++ JumpZero (pos 3) ∷ Push (pos 1) ∷ Jump (pos (length second + 1)) ∷ second
placed_value p (binary Apply (variable f) e) = placed_value p e ++ placed_load p f (p.row f)
placed_value p f = Push (literal_number f) ∷ []

-- ---- substitutions
-- the code that puts the value into n cells, from this one on
abbrev pub fill : List Inst → ℕ → ℕ → List Inst
fill value cell zero = []
fill value cell (suc n) = value ++ Store cell ∷ fill value (cell + 1) n

-- f(i) := v, or the fill f := D * {v} of the whole array
abbrev pub placed_array : Places → ℕ → ArrayRow → Option (Formula × Formula) → Formula → List Inst
placed_array p x row (Some w) f = placed_value p w.0 ++ placed_value p w.1 ++ placed_write p x row
placed_array p x row None (binary Times d (unary Single v)) = fill (placed_value p v) (p.first_cell x) (p.cells x)
placed_array p x row None f = []

-- x := f: to the one cell of x, or to the array x
abbrev pub placed_store : Places → ℕ → Option ArrayRow → Formula → List Inst
placed_store p x None f = placed_value p f ++ Store (p.first_cell x) ∷ []
placed_store p x (Some row) f = placed_array p x row (write_of x f) f

-- the code of an assignment to one variable; B0 has no other
abbrev pub placed_assignment : Places → List (ℕ × Formula) → List Inst
placed_assignment p (a ∷ []) = placed_store p a.0 (p.row a.0) a.1
placed_assignment p _ = []

-- the code of a statement; the substitutions that are not in B0 have none
abbrev pub placed_statement : Places → Substitution → List Inst
placed_statement p skip = []
placed_statement p (assign ps) = placed_assignment p ps
placed_statement p (seq s t) = placed_statement p s ++ placed_statement p t
placed_statement p (any zs s) = placed_statement p s
placed_statement p (assert q s) = placed_statement p s
placed_statement p (if_else q s t) = let first = placed_statement p s in let second = placed_statement p t in
    placed_value p q ++ JumpZero (pos (length first + 2)) ∷ first ++ Jump (pos (length second + 1)) ∷ second
placed_statement p (loop q s i v) = let test = placed_value p q in let body = placed_statement p s in
    test ++ JumpZero (pos (length body + 2)) ∷ body ++ Jump (neg_ℤ (pos (length test + 1 + length body))) ∷ []
placed_statement p s = []

-- ---- the parts of an image
-- the kind and the cell of an input or an output
abbrev pub placed_parameter : Places → ℕ → Parameter
placed_parameter p x = record { kind = p.kind x; slot = p.first_cell x }

-- the code of a statement, with a Ret after it
abbrev pub placed_block : Places → Substitution → List Inst
placed_block p s = placed_statement p s ++ Ret ∷ []

-- the operations' entries, the first starting at this place
abbrev pub placed_entries : Places → ℕ → List Head → List Body → List OpEntry
placed_entries p place (h ∷ hs) (b ∷ bs) =
    record { name = h.name; start = place; inputs = map (placed_parameter p) h.inputs; outputs = map (placed_parameter p) b.outputs } ∷
    placed_entries p (place + length (placed_block p b.sub)) hs bs
placed_entries p place _ _ = []

-- the code of bodies, one after the other
abbrev pub placed_bodies : Places → List Body → List Inst
placed_bodies p [] = []
placed_bodies p (b ∷ bs) = placed_block p b.sub ++ placed_bodies p bs
