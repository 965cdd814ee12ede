-- B0 with the types of its expressions.
use Rattle.std.specs.Prelude.{◌≡◌, ◌⊎◌, ℕ, true, nat_lt, List, [], ◌∷◌, Option, Some, None}
use Rattle.bk_val.specs.ValueType.{ValueType, int_type, bool_type, enum_type}
use Rattle.bk_form.specs.Table.{set_size}
use Rattle.bk_form.specs.ArrayTable.{row_of}
use Rattle.bk_form.specs.Formula.{Formula, variable, literal, truth_value, element, unary, binary}
use Rattle.bk_form.specs.Defined.{is_in_int}
use Rattle.bk_form.specs.declared.operator.UnOp.TheVariants.{Not, BoolOf, Neg as Minus, Single}
use Rattle.bk_form.specs.declared.operator.BinOp.TheVariants.{And, Or, Eq as Equals, Lt as Below, Le as AtMost, Add as Plus, Sub as Less, Mul as By, Div as Over, Mod as Rest, Apply, Times, Over as Overridden, Maps}
use Rattle.bk_form.specs.declared.arrays.ArrayRow.{ArrayRow}
use Rattle.bk_gsl.specs.State.{declared_type}
use Rattle.bk_gsl.specs.Substitution.{Substitution, skip, assign, if_else, any, seq, assert, loop}
use Rattle.bk_dev.specs.Development.{Development, int_max}
use Rattle.bk_dev.specs.Layout.{arrays_of, indices_of}
use Rattle.bk_b0.specs.Kinds.{cell_type, index_type}

-- ---- expressions and conditions
abbrev mutual
  -- an expression of this type: a literal within INT, TRUE, FALSE, an element, a constant or a scalar by its name, an array at
  -- an index, a sum, difference, product, quotient, remainder or negation, or bool(C)
  pub IsTypedExpression : Development → ValueType → Formula → Type 0
  IsTypedExpression dev t (variable x) = (row_of (arrays_of dev) x ≡ None) × (declared_type dev.table x ≡ t)
  IsTypedExpression dev t (literal z) = (t ≡ int_type) × (is_in_int (int_max dev) z ≡ true)
  IsTypedExpression dev t (truth_value b) = t ≡ bool_type
  IsTypedExpression dev t (element s i) = (t ≡ enum_type s) × (nat_lt i (set_size dev.table s) ≡ true)
  IsTypedExpression dev t (unary Minus a) = (t ≡ int_type) × IsTypedExpression dev int_type a
  IsTypedExpression dev t (unary BoolOf p) = (t ≡ bool_type) × IsTypedCondition dev p
  IsTypedExpression dev t (binary Plus a b) = (t ≡ int_type) × IsTypedExpression dev int_type a × IsTypedExpression dev int_type b
  IsTypedExpression dev t (binary Less a b) = (t ≡ int_type) × IsTypedExpression dev int_type a × IsTypedExpression dev int_type b
  IsTypedExpression dev t (binary By a b) = (t ≡ int_type) × IsTypedExpression dev int_type a × IsTypedExpression dev int_type b
  IsTypedExpression dev t (binary Over a b) = (t ≡ int_type) × IsTypedExpression dev int_type a × IsTypedExpression dev int_type b
  IsTypedExpression dev t (binary Rest a b) = (t ≡ int_type) × IsTypedExpression dev int_type a × IsTypedExpression dev int_type b
  IsTypedExpression dev t (binary Apply (variable f) a) = (row : ArrayRow) × (row_of (arrays_of dev) f ≡ Some row) × (cell_type dev f ≡ t) × IsTypedExpression dev (index_type row.domain) a
  IsTypedExpression dev t _ = ⊥

  -- a comparison, or not(p), p & q, p or q of conditions; equations are of scalars of one type
  pub IsTypedCondition : Development → Formula → Type 0
  IsTypedCondition dev (binary Equals a b) = (t : ValueType) × IsTypedExpression dev t a × IsTypedExpression dev t b
  IsTypedCondition dev (binary Below a b) = IsTypedExpression dev int_type a × IsTypedExpression dev int_type b
  IsTypedCondition dev (binary AtMost a b) = IsTypedExpression dev int_type a × IsTypedExpression dev int_type b
  IsTypedCondition dev (unary Not p) = IsTypedCondition dev p
  IsTypedCondition dev (binary And p q) = IsTypedCondition dev p × IsTypedCondition dev q
  IsTypedCondition dev (binary Or p q) = IsTypedCondition dev p × IsTypedCondition dev q
  IsTypedCondition dev _ = ⊥

-- ---- statements
-- a literal, TRUE, FALSE, an element, a constant or a scalar by its name
abbrev pub IsPlainValue : Formula → Type 0
IsPlainValue (variable x) = Unit {0}
IsPlainValue (literal z) = Unit {0}
IsPlainValue (truth_value b) = Unit {0}
IsPlainValue (element s i) = Unit {0}
IsPlainValue _ = ⊥

-- x <+ {i |-> v} for an array x
pub record IsTypedWrite (dev : Development) (x : ℕ) (row : ArrayRow) (f : Formula) : Type 0 where
  pub index : Formula
  pub value : Formula
  pub is : f ≡ binary Overridden (variable x) (unary Single (binary Maps index value))
  pub is_index : IsTypedExpression dev (index_type row.domain) index
  pub is_value : IsTypedExpression dev (cell_type dev x) value

-- D * {v} with D the array's domain
pub record IsTypedFill (dev : Development) (x : ℕ) (row : ArrayRow) (f : Formula) : Type 0 where
  pub domain : Formula
  pub value : Formula
  pub is : f ≡ binary Times domain (unary Single value)
  pub is_domain : indices_of (int_max dev) dev.values domain ≡ Some row.domain
  pub plain : IsPlainValue value
  pub is_value : IsTypedExpression dev (cell_type dev x) value

abbrev pub IsTypedTerm : Development → ℕ → Option ArrayRow → Formula → Type 0
IsTypedTerm dev x None f = IsTypedExpression dev (declared_type dev.table x) f
IsTypedTerm dev x (Some row) f = IsTypedWrite dev x row f ⊎ IsTypedFill dev x row f

-- x := E, f(i) := E or a fill: one variable at a time
abbrev pub IsTypedAssignment : Development → List (ℕ × Formula) → Type 0
IsTypedAssignment dev (p ∷ []) = IsTypedTerm dev p.0 (row_of (arrays_of dev) p.0) p.1
IsTypedAssignment dev _ = ⊥

-- no array is among them
abbrev pub AreNoArrays : Development → List ℕ → Type 0
AreNoArrays dev [] = Unit {0}
AreNoArrays dev (x ∷ xs) = (row_of (arrays_of dev) x ≡ None) × AreNoArrays dev xs

-- skip, an assignment, S ; T, VAR, IF, ASSERT and WHILE
abbrev pub IsTypedB0 : Development → Substitution → Type 0
IsTypedB0 dev skip = Unit {0}
IsTypedB0 dev (assign ps) = IsTypedAssignment dev ps
IsTypedB0 dev (seq s t) = IsTypedB0 dev s × IsTypedB0 dev t
IsTypedB0 dev (any zs s) = AreNoArrays dev zs × IsTypedB0 dev s
IsTypedB0 dev (assert p s) = IsTypedB0 dev s
IsTypedB0 dev (if_else p s t) = IsTypedCondition dev p × IsTypedB0 dev s × IsTypedB0 dev t
IsTypedB0 dev (loop p s i v) = IsTypedCondition dev p × IsTypedB0 dev s
IsTypedB0 dev _ = ⊥
