-- What is not B0: what an implementation has that is not B0, the part of the notation that has code. A statement that is none is told by
-- itself; a formula that is none is told where nothing inside it is none. It is told where no other fault is.
-- Source: B Language Reference Manual, B0; the places are this project's.
use Rattle.std.specs.Prelude.{ℕ, suc, ◌+◌, ℤ, pos, ◌-ℤ◌, int_le, Bool, true, false, cond, ◌&&◌}
use Rattle.std.specs.Prelude.{◌||◌, nat_eq, List, [], ◌∷◌, ◌++◌, length, Option, None, Some}
use Rattle.bk_val.specs.ValueType.{ValueType, int_type}
use Rattle.bk_form.specs.ArrayTable.{row_of}
use Rattle.bk_form.specs.Formula.{Formula, variable, literal, named, binary}
use Rattle.bk_form.specs.Role.{bind, same_type}
use Rattle.bk_form.specs.declared.operator.BinOp.TheVariants.{Range, TotalFunctions}
use Rattle.bk_form.specs.declared.operator.Domain.{Domain}
use Rattle.bk_form.specs.declared.operator.Domain.TheVariants.{Bool as Booleans, Enum}
use Rattle.bk_dev.specs.Development.{Development, is_implementing}
use Rattle.bk_dev.specs.Layout.{Clue, in_domain, typing_clue, reversed, arrays_of, is_scalar}
use Rattle.bk_raw.specs.declared.operator.InfixOp.{InfixOp}
use Rattle.bk_raw.specs.declared.operator.InfixOp.TheVariants.{Equivalent, Implies, And, Or, Equal, NotEqual, Less, AtMost}
use Rattle.bk_raw.specs.declared.operator.InfixOp.TheVariants.{Greater, AtLeast, Plus, Minus, Times, Divide, Mod}
use Rattle.bk_raw.specs.declared.operator.WordOp.TheVariants.{Not, BoolOf, Succ, Pred}
use Rattle.bk_raw.specs.declared.operator.Constant.{Constant}
use Rattle.bk_raw.specs.declared.operator.Constant.TheVariants.{True, False, MaxInt, MinInt}
use Rattle.bk_raw.specs.declared.term.RawName.{RawName}
use Rattle.bk_raw.specs.Trees.RawTree.{RawTree, raw, RawTreeNode, raw_name, raw_number, raw_constant, raw_word}
use Rattle.bk_raw.specs.Trees.RawTree.{raw_negative, raw_infix, raw_inverse, raw_image, raw_apply, raw_composition}
use Rattle.bk_raw.specs.Trees.RawTree.{raw_pair, raw_extension, RawTrees, no_trees, tree_and}
use Rattle.bk_raw.specs.Trees.SubTree.{SubTree, sub, SubNode, sub_skip, sub_assign, sub_assign_at, sub_begin, sub_assert, sub_if}
use Rattle.bk_raw.specs.Trees.SubTree.{sub_var, sub_while, sub_sequence, Branches, no_branches, else_branch, branch_and}
use Rattle.bk_raw.specs.Meaning.Names.{Names}
use Rattle.bk_raw.specs.Meaning.Outcome.{Outcome, partial, whole, ask_domain}
use Rattle.bk_raw.specs.Errors.Faults.{Fault, not_b0}
use Rattle.bk_statics.specs.Components.{WrittenVariable, Component, abstract_names, initialisation}
use Rattle.bk_statics.specs.Typings.{Typing, numbered, target_in, variable_named, type_at, type_named, outcome_of}
use Rattle.bk_statics.specs.Binders.{binder_count}
use Rattle.bk_statics.specs.Plan.{Declared, Placed, Plan, plan, operations_of, scope, body_scope}
use Rattle.bk_statics.specs.LevelOf.{types_at, made}
use Rattle.bk_statics.specs.ClauseFaults.{declared_at, place_or}
use Rattle.bk_statics.specs.ValueFaults.{is_there}

-- a fault, unless the test holds
abbrev pub not_executable : Bool → ℕ → List Fault
not_executable true at = []
not_executable false at = not_b0 at ∷ []

-- ---- types
-- whether it is there, and one of numbers, truth values or elements
abbrev pub is_scalar_option : Option ValueType → Bool
is_scalar_option None = false
is_scalar_option (Some t) = is_scalar t

-- the type that an expression gives
abbrev pub outcome_type : Outcome → Option ValueType
outcome_type (partial (whole f t)) = Some t
outcome_type _ = None

-- whether it is the type of numbers
abbrev pub is_int : Option ValueType → Bool
is_int None = false
is_int (Some t) = same_type t int_type

-- ---- arrays
-- D of f : D --> E
abbrev pub domain_in : Clue → Option Formula
domain_in (in_domain (binary TotalFunctions d e)) = Some d
domain_in _ = None

-- the answer, where the test holds
abbrev pub where_array : Bool → Option Formula → Option Formula
where_array true d = d
where_array false d = None

-- the domain that variable x is declared with, where it is an array of the development's last level
abbrev pub declared_domain : Development → ℕ → Option Formula
declared_domain dev x = where_array (is_there (row_of (arrays_of dev) x)) (domain_in (typing_clue (Some x) (reversed dev.levels [])))

-- whether two bounds are the same number or the same constant
abbrev pub same_bound : Formula → Formula → Bool
same_bound (literal a) (literal b) = int_le a b && int_le b a
same_bound (variable m) (variable n) = nat_eq m n
same_bound _ _ = false

-- whether both are BOOL or both the same set
abbrev pub same_set : Domain → Domain → Bool
same_set Booleans Booleans = true
same_set (Enum m) (Enum n) = nat_eq m n
same_set _ _ = false

-- whether a domain is the one that an array is declared with, which is an interval of numbers and constants, BOOL or a set
abbrev pub same_domain : Formula → Option Formula → Bool
same_domain (binary Range a b) (Some (binary Range c d)) = same_bound a c && same_bound b d
same_domain (named d) (Some (named e)) = same_set d e
same_domain _ _ = false

-- ---- expressions and conditions
-- MAXINT, the types of numbers, and the domains of arrays
pub record Executing : Type 0 where
  pub int_max : ℤ
  pub typing : Typing
  pub array : ℕ → Option Formula

-- the domain of an array's number
abbrev pub array_of : Executing → Option ℕ → Option Formula
array_of x None = None
array_of x (Some n) = x.array n

-- whether the name is that of an array
abbrev pub is_array : Executing → Names → List ℕ → Bool
is_array x names f = is_there (array_of x (variable_named names f))

-- whether it is TRUE, FALSE, MAXINT or MININT
abbrev pub is_literal_word : Constant → Bool
is_literal_word True = true
is_literal_word False = true
is_literal_word MaxInt = true
is_literal_word MinInt = true
is_literal_word _ = false

-- whether it calculates with two numbers
abbrev pub is_sum : InfixOp → Bool
is_sum Plus = true
is_sum Minus = true
is_sum Times = true
is_sum Divide = true
is_sum Mod = true
is_sum _ = false

-- whether it compares two numbers
abbrev pub is_order : InfixOp → Bool
is_order Less = true
is_order AtMost = true
is_order Greater = true
is_order AtLeast = true
is_order _ = false

-- whether it is = or /=
abbrev pub is_equation : InfixOp → Bool
is_equation Equal = true
is_equation NotEqual = true
is_equation _ = false

-- whether it is & or or
abbrev pub joins_conditions : InfixOp → Bool
joins_conditions And = true
joins_conditions Or = true
joins_conditions _ = false

-- whether a number is within INT
abbrev pub is_within : Executing → ℤ → Bool
is_within x z = int_le (pos 0 -ℤ x.int_max) z && int_le z x.int_max

-- the type that a term gives
abbrev pub type_given : Executing → Names → RawTree → Option ValueType
type_given x names e = outcome_type (outcome_of x.int_max x.typing names e)

-- whether it gives a number
abbrev pub gives_int : Executing → Names → RawTree → Bool
gives_int x names e = is_int (type_given x names e)

-- whether it gives a scalar
abbrev pub gives_scalar : Executing → Names → RawTree → Bool
gives_scalar x names e = is_scalar_option (type_given x names e)

-- what is inside a formula that is no B0, or where that is all B0, the formula
abbrev pub or_whole : ℕ → List Fault → List Fault
or_whole at [] = not_b0 at ∷ []
or_whole at (f ∷ fs) = f ∷ fs

-- whether it is => or <=>
abbrev pub is_implication : InfixOp → Bool
is_implication Implies = true
is_implication Equivalent = true
is_implication _ = false

abbrev mutual
  -- literals within INT, constants, elements, TRUE, FALSE, scalar names, f(e), +, -, *, /, mod, unary minus, succ, pred and bool(C)
  pub expression_faults : Executing → Names → RawTree → List Fault
  expression_faults x names (raw at node) = expression_in x names at node

  pub expression_in : Executing → Names → ℕ → RawTreeNode → List Fault
  expression_in x names at (raw_number z) = not_executable (is_within x z) at
  expression_in x names at (raw_constant c) = not_executable (is_literal_word c) at
  expression_in x names at (raw_name n) = not_executable (gives_scalar x names (raw at (raw_name n))) at
  expression_in x names at (raw_negative a) = expression_faults x names a
  expression_in x names at (raw_word Succ a) = expression_faults x names a
  expression_in x names at (raw_word Pred a) = expression_faults x names a
  expression_in x names at (raw_word BoolOf a) = condition_faults x names a
  expression_in x names at (raw_infix o a b) = cond (is_sum o && gives_int x names (raw at (raw_infix o a b))) (expression_faults x names a
      ++ expression_faults x names b) (or_whole at (expression_faults x names a ++ expression_faults x names b))
  expression_in x names at (raw_apply (raw there (raw_name f)) b) = cond (is_array x names f) (expression_faults x names b)
      (or_whole at (not_executable (gives_scalar x names (raw there (raw_name f))) there ++ expression_faults x names b))
  expression_in x names at (raw_apply f b) = or_whole at (expression_faults x names f ++ expression_faults x names b)
  expression_in x names at (raw_word o a) = or_whole at (expression_faults x names a)
  expression_in x names at (raw_inverse a) = or_whole at (expression_faults x names a)
  expression_in x names at (raw_image a b) = or_whole at (expression_faults x names a ++ expression_faults x names b)
  expression_in x names at (raw_composition a b) = or_whole at (expression_faults x names a ++ expression_faults x names b)
  expression_in x names at (raw_pair a b) = or_whole at (expression_faults x names a ++ expression_faults x names b)
  expression_in x names at (raw_extension ts) = or_whole at (all_expression_faults x names ts)
  expression_in x names at _ = not_b0 at ∷ []

  -- = and /= on scalars of one type, <, <=, >, >= on integers, &, or, not
  pub condition_faults : Executing → Names → RawTree → List Fault
  condition_faults x names (raw at node) = condition_in x names at node

  pub condition_in : Executing → Names → ℕ → RawTreeNode → List Fault
  condition_in x names at (raw_word Not a) = condition_faults x names a
  condition_in x names at (raw_infix o a b) =
      cond (joins_conditions o) (condition_faults x names a ++ condition_faults x names b)
      (cond (is_order o || (is_equation o && (gives_scalar x names a && gives_scalar x names b)))
      (expression_faults x names a ++ expression_faults x names b)
      (or_whole at (cond (is_implication o) (condition_faults x names a ++ condition_faults x names b)
      (expression_faults x names a ++ expression_faults x names b))))
  condition_in x names at _ = not_b0 at ∷ []

  -- several expressions
  pub all_expression_faults : Executing → Names → RawTrees → List Fault
  all_expression_faults x names no_trees = []
  all_expression_faults x names (tree_and e es) = expression_faults x names e ++ all_expression_faults x names es

-- ---- statements
-- a literal within INT, TRUE, FALSE, an element, a constant or a scalar name
abbrev pub is_fill_value : Executing → Names → RawTree → Bool
is_fill_value x names (raw at (raw_number z)) = is_within x z
is_fill_value x names (raw at (raw_constant c)) = is_literal_word c
is_fill_value x names (raw at (raw_name n)) = gives_scalar x names (raw at (raw_name n))
is_fill_value x names _ = false

-- the formula of a domain
abbrev pub formula_in : Option (Formula × ValueType) → Option Formula
formula_in None = None
formula_in (Some p) = Some p.0

-- the domain that a term is
abbrev pub domain_read : Executing → Names → RawTree → Option Formula
domain_read x names d = formula_in (ask_domain 0 (outcome_of x.int_max x.typing names d)).answer

-- whether the term is D * {E} for an array that is declared with D
abbrev pub is_fill : Executing → Names → Option Formula → RawTree → Bool
is_fill x names None e = false
is_fill x names (Some domain) (raw at (raw_infix Times d (raw there (raw_extension (tree_and e no_trees))))) =
    same_domain domain (domain_read x names d) && is_fill_value x names e
is_fill x names (Some domain) _ = false

-- x := E for a scalar, or a fill of an array: one variable at a time
abbrev pub assigned_faults : Executing → Names → ℕ → List RawName → RawTrees → List Fault
assigned_faults x names at (v ∷ []) (tree_and e no_trees) =
    cond (is_scalar_option (type_named x.typing names v.text)) (expression_faults x names e)
    (not_executable (is_fill x names (array_of x (variable_named names v.text)) e) at)
assigned_faults x names at _ _ = not_b0 at ∷ []

abbrev mutual
  -- skip, x := E, f(e) := E, a fill, S ; T, BEGIN, VAR, IF, WHILE and ASSERT, whose predicate is not executed; nor are a loop's invariant
  -- and variant
  pub statement_faults : Executing → Names → ℕ → SubTree → List Fault
  statement_faults x names n (sub at node) = statement_in x names n at node

  pub statement_in : Executing → Names → ℕ → ℕ → SubNode → List Fault
  statement_in x names n at sub_skip = []
  statement_in x names n at (sub_assign vs es) = assigned_faults x names at vs es
  statement_in x names n at (sub_assign_at f e v) =
      not_executable (is_array x names f.text) at ++ (expression_faults x names e ++ expression_faults x names v)
  statement_in x names n at (sub_begin s) = statement_faults x names n s
  statement_in x names n at (sub_assert p s) = statement_faults x names n s
  statement_in x names n at (sub_if p s bs) =
      condition_faults x names p ++ (statement_faults x names n s ++ branches_executable x names (n + binder_count s) bs)
  statement_in x names n at (sub_var vs s) = statement_faults x (bind (numbered n vs) names) (n + length vs) s
  statement_in x names n at (sub_while p s i v) = condition_faults x names p ++ statement_faults x names n s
  statement_in x names n at (sub_sequence s t) = statement_faults x names n s ++ statement_faults x names (n + binder_count s) t
  statement_in x names n at _ = not_b0 at ∷ []

  pub branches_executable : Executing → Names → ℕ → Branches → List Fault
  branches_executable x names n no_branches = []
  branches_executable x names n (else_branch s) = statement_faults x names n s
  branches_executable x names n (branch_and p s bs) =
      condition_faults x names p ++ (statement_faults x names n s ++ branches_executable x names (n + binder_count s) bs)

-- ---- declarations
-- each name of VARIABLES
abbrev pub abstract_faults : List RawName → List Fault
abstract_faults [] = []
abstract_faults (x ∷ xs) = not_b0 x.at ∷ abstract_faults xs

-- a variable that is neither scalar nor array: at its declaration, or at the component's name where it only comes from above
abbrev pub stored_faults : Executing → ℕ → List WrittenVariable → ℕ → List Declared → List Fault
stored_faults x at vs n [] = []
stored_faults x at vs n (d ∷ ds) = not_executable (is_scalar_option (x.typing n) || is_there (x.array n))
    (place_or at (declared_at vs d.text)) ++ stored_faults x at vs (suc n) ds

-- outputs that are no scalars
abbrev pub output_scalars : Executing → ℕ → List RawName → List Fault
output_scalars x n [] = []
output_scalars x n (y ∷ ys) = not_executable (is_scalar_option (x.typing n)) y.at ++ output_scalars x (suc n) ys

-- inputs that are no scalars; these are their names in scope, in order
abbrev pub input_scalars : Executing → Names → List RawName → List Fault
input_scalars x (n ∷ ns) (y ∷ ys) = not_executable (is_scalar_option (type_at x.typing (target_in n.meaning))) y.at ++ input_scalars x ns ys
input_scalars x _ _ = []

-- operations
abbrev pub operations_executable : Executing → Plan → List Placed → List Fault
operations_executable x p [] = []
operations_executable x p (o ∷ os) =
    output_scalars x o.outputs_at o.headed.operation.outputs
    ++ (input_scalars x o.headed.inputs o.headed.operation.inputs
    ++ (statement_faults x (body_scope p o) o.binders_at o.headed.operation.body ++ operations_executable x p os))

-- an implementation
abbrev pub executable_in : Executing → Plan → Component → List Fault
executable_in x p c =
    abstract_faults (abstract_names c.variables)
    ++ (stored_faults x c.name.at c.variables p.variables_at p.variables
    ++ (statement_faults x (scope p) p.binders_at (initialisation c) ++ operations_executable x p (operations_of p c)))

-- those of an implementation below these levels
abbrev pub executable_faults : ℤ → Development → Component → List Fault
executable_faults int_max dev c = cond (is_implementing c.kind) (executable_in
    (record { int_max = int_max; typing = types_at int_max dev c (plan dev c); array = declared_domain (made int_max dev c (plan dev c)) })
    (plan dev c) c) []
