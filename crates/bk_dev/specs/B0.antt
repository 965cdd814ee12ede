-- B0, the part of the notation that has code: the expressions, conditions and statements of a development's last level.
-- Source: B Language Reference Manual, B0.
use Rattle.std.specs.Prelude.{◌≡◌, ◌⊎◌, ℕ, ◌+◌, ◌<◌, ◌≤◌, max, true, List, [], ◌∷◌, Option, Some, None, length}
use Rattle.bk_limits.specs.declared.TheConstants.{MOST_OPERATORS}
use Rattle.bk_form.specs.ArrayTable.{ArrayTable, row_of}
use Rattle.bk_form.specs.Formula.{Formula, variable, literal, truth_value, element, unary, binary, btrue}
use Rattle.bk_form.specs.Defined.{is_in_int}
use Rattle.bk_form.specs.Each.{Each}
use Rattle.bk_form.specs.declared.operator.UnOp.TheVariants.{Not, BoolOf, Neg, Single}
use Rattle.bk_form.specs.declared.operator.BinOp.TheVariants.{And, Or, Eq, Lt, Le, Add, Sub, Mul, Div, Mod}
use Rattle.bk_form.specs.declared.operator.BinOp.TheVariants.{Apply, Times, Over, Maps, TotalFunctions}
use Rattle.bk_form.specs.declared.arrays.ArrayRow.{ArrayRow}
use Rattle.bk_gsl.specs.State.{declared_type}
use Rattle.bk_gsl.specs.Clean.{write_of}
use Rattle.bk_gsl.specs.Substitution.{Substitution, skip, assign, if_else, any, seq, assert, loop}
use Rattle.bk_dev.specs.Development.{Body, Development, int_max, is_complete, level_at, last, inputs_of}
use Rattle.bk_dev.specs.Layout.{in_domain, typing_clue, reversed, arrays_of, is_scalar}

-- ---- names
-- no array, and of an integer, BOOL or enumerated type
abbrev pub IsScalarName : Development → ℕ → Type 0
IsScalarName dev x = (row_of (arrays_of dev) x ≡ None) × (is_scalar (declared_type dev.table x) ≡ true)

-- the variable is an array of the implementation
abbrev pub IsArrayName : Development → ℕ → Type 0
IsArrayName dev x = (row : ArrayRow) × (row_of (arrays_of dev) x ≡ Some row)

-- the domain that the array is declared with: D of the f : D --> E that types it
abbrev pub IsDeclaredDomain : Development → ℕ → Formula → Type 0
IsDeclaredDomain dev x d = (e : Formula) × (typing_clue (Some x) (reversed dev.levels []) ≡ in_domain (binary TotalFunctions d e))

-- ---- expressions and conditions
abbrev mutual
  -- a literal within INT, TRUE, FALSE, an element, a constant or a scalar by its name, an array at an index, a sum, difference,
  -- product, quotient, remainder or negation, or bool(C)
  pub IsExpression : Development → Formula → Type 0
  IsExpression dev (variable x) = IsScalarName dev x
  IsExpression dev (literal z) = is_in_int (int_max dev) z ≡ true
  IsExpression dev (truth_value b) = Unit {0}
  IsExpression dev (element s i) = Unit {0}
  IsExpression dev (unary Neg a) = IsExpression dev a
  IsExpression dev (unary BoolOf p) = IsCondition dev p
  IsExpression dev (binary Add a b) = IsExpression dev a × IsExpression dev b
  IsExpression dev (binary Sub a b) = IsExpression dev a × IsExpression dev b
  IsExpression dev (binary Mul a b) = IsExpression dev a × IsExpression dev b
  IsExpression dev (binary Div a b) = IsExpression dev a × IsExpression dev b
  IsExpression dev (binary Mod a b) = IsExpression dev a × IsExpression dev b
  IsExpression dev (binary Apply (variable f) a) = IsArrayName dev f × IsExpression dev a
  IsExpression dev _ = ⊥

  -- a comparison, or not(p), p & q, p or q of conditions
  pub IsCondition : Development → Formula → Type 0
  IsCondition dev (binary Eq a b) = IsExpression dev a × IsExpression dev b
  IsCondition dev (binary Lt a b) = IsExpression dev a × IsExpression dev b
  IsCondition dev (binary Le a b) = IsExpression dev a × IsExpression dev b
  IsCondition dev (unary Not p) = IsCondition dev p
  IsCondition dev (binary And p q) = IsCondition dev p × IsCondition dev q
  IsCondition dev (binary Or p q) = IsCondition dev p × IsCondition dev q
  IsCondition dev _ = ⊥

-- ---- statements
-- the value of a fill: a literal within INT, TRUE, FALSE, an element, a constant or a scalar by its name
abbrev pub IsFillValue : Development → Formula → Type 0
IsFillValue dev (variable x) = IsScalarName dev x
IsFillValue dev (literal z) = is_in_int (int_max dev) z ≡ true
IsFillValue dev (truth_value b) = Unit {0}
IsFillValue dev (element s i) = Unit {0}
IsFillValue dev _ = ⊥

-- f(i) := v, which is f := f <+ {i |-> v}
pub record IsElementWrite (dev : Development) (x : ℕ) (f : Formula) : Type 0 where
  pub index : Formula
  pub value : Formula
  pub is : f ≡ binary Over (variable x) (unary Single (binary Maps index value))
  pub is_index : IsExpression dev index
  pub is_value : IsExpression dev value

-- f := D * {v} with D the domain that f is declared with
pub record IsFill (dev : Development) (x : ℕ) (f : Formula) : Type 0 where
  pub domain : Formula
  pub value : Formula
  pub is : f ≡ binary Times domain (unary Single value)
  pub is_declared : IsDeclaredDomain dev x domain
  pub is_value : IsFillValue dev value

-- what a scalar may be set to, and what an array
abbrev pub IsTermFor : Development → ℕ → Option ArrayRow → Formula → Type 0
IsTermFor dev x None f = IsExpression dev f
IsTermFor dev x (Some row) f = IsElementWrite dev x f ⊎ IsFill dev x f

-- x := E, f(i) := E or a fill: one variable at a time
abbrev pub IsAssignment : Development → List (ℕ × Formula) → Type 0
IsAssignment dev (p ∷ []) = IsTermFor dev p.0 (row_of (arrays_of dev) p.0) p.1
IsAssignment dev _ = ⊥

-- skip, an assignment, S ; T, VAR, IF, ASSERT and WHILE
abbrev pub IsB0 : Development → Substitution → Type 0
IsB0 dev skip = Unit {0}
IsB0 dev (assign ps) = IsAssignment dev ps
IsB0 dev (seq s t) = IsB0 dev s × IsB0 dev t
IsB0 dev (any zs s) = Each (IsScalarName dev) zs × IsB0 dev s
IsB0 dev (assert p s) = IsB0 dev s
IsB0 dev (if_else p s t) = IsCondition dev p × IsB0 dev s × IsB0 dev t
IsB0 dev (loop p s i v) = IsCondition dev p × IsB0 dev s
IsB0 dev _ = ⊥

-- ---- room on the stack
-- how many operators on two operands lie on the way down that has most of them
abbrev pub operators_down : Formula → ℕ
operators_down (unary o a) = operators_down a
operators_down (binary o a b) = max (operators_down a) (operators_down b) + 1
operators_down _ = 0

-- so few that its value is calculated with at most STACK_ROOM numbers on the stack, also where an array's index lies below it
abbrev pub HasFewOperators : Formula → Type 0
HasFewOperators f = operators_down f ≤ MOST_OPERATORS

-- of f(i) := v the index and the value, each by itself; a fill has a value without operators
abbrev pub IsShallowWrite : Option (Formula × Formula) → Type 0
IsShallowWrite (Some w) = HasFewOperators w.0 × HasFewOperators w.1
IsShallowWrite None = Unit {0}

-- what a scalar is set to, and what is written to an array
abbrev pub IsShallowTerm : ℕ → Option ArrayRow → Formula → Type 0
IsShallowTerm x None f = HasFewOperators f
IsShallowTerm x (Some row) f = IsShallowWrite (write_of x f)

-- each term of an assignment
abbrev pub HaveShallowTerms : ArrayTable → List (ℕ × Formula) → Type 0
HaveShallowTerms arrays [] = Unit {0}
HaveShallowTerms arrays (p ∷ ps) = IsShallowTerm p.0 (row_of arrays p.0) p.1 × HaveShallowTerms arrays ps

-- each condition and each expression that a statement evaluates is shallow; the predicate of an ASSERT, and the invariant and
-- the variant of a loop are not evaluated
abbrev pub EvaluatesShallow : ArrayTable → Substitution → Type 0
EvaluatesShallow arrays (assign ps) = HaveShallowTerms arrays ps
EvaluatesShallow arrays (seq s t) = EvaluatesShallow arrays s × EvaluatesShallow arrays t
EvaluatesShallow arrays (any zs s) = EvaluatesShallow arrays s
EvaluatesShallow arrays (assert p s) = EvaluatesShallow arrays s
EvaluatesShallow arrays (if_else p s t) = HasFewOperators p × EvaluatesShallow arrays s × EvaluatesShallow arrays t
EvaluatesShallow arrays (loop p s i v) = HasFewOperators p × EvaluatesShallow arrays s
EvaluatesShallow arrays _ = Unit {0}

-- ---- the last level
-- no precondition stands in front, outputs are scalars, and the body is B0 with shallow expressions
pub record IsB0Body (dev : Development) (b : Body) : Type 0 where
  pub condition : b.condition ≡ btrue
  pub outputs : Each (IsScalarName dev) b.outputs
  pub sub : IsB0 dev b.sub
  pub shallow : EvaluatesShallow (arrays_of dev) b.sub

-- the last level is an implementation in B0: its variables are scalars and arrays, inputs and outputs are scalars, and no executed
-- expression has more than MOST_OPERATORS operators on two operands on one way down
pub record IsB0Development (dev : Development) : Type 0 where
  pub complete : is_complete dev ≡ true
  pub variables : Each (λ x. IsScalarName dev x ⊎ IsArrayName dev x) (level_at dev (last dev)).vars
  pub inputs : (o : ℕ) → o < length dev.heads → Each (IsScalarName dev) (inputs_of dev o)
  pub init : IsB0 dev (level_at dev (last dev)).init
  pub init_shallow : EvaluatesShallow (arrays_of dev) (level_at dev (last dev)).init
  pub bodies : Each (IsB0Body dev) (level_at dev (last dev)).bodies
