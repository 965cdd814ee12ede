-- What is not B0: what an implementation has that is not in the part of the notation that has code. A statement that is none is told by
-- itself; a formula that is none is told where it is innermost.
-- Source: B Language Reference Manual, B0; the places are this project's.
use Rattle.std.specs.Prelude.{ℕ, suc, int_le, Bool, true, false, cond, ◌&&◌, ◌||◌, nat_eq, List, [], ◌∷◌, ◌++◌, map, Option, None, Some}
use Rattle.std.specs.List.{flat_map}
use Rattle.bk_form.specs.ArrayTable.{row_of}
use Rattle.bk_form.specs.Formula.{Formula, variable, literal, truth_value, element, named, unary, binary}
use Rattle.bk_form.specs.declared.operator.UnOp.TheVariants.{Single}
use Rattle.bk_form.specs.declared.operator.BinOp.TheVariants.{Range, Times as Product, TotalFunctions as TotalOf}
use Rattle.bk_form.specs.declared.operator.Domain.TheVariants.{Bool as Booleans, Enum}
use Rattle.bk_dev.specs.Development.{Development, is_implementing}
use Rattle.bk_dev.specs.Layout.{Clue, in_domain, typing_clue, reversed, arrays_of}
use Rattle.bk_raw.specs.declared.operator.InfixOp.{InfixOp}
use Rattle.bk_raw.specs.declared.operator.InfixOp.TheVariants.{And, Or, Implies, Equivalent, Equal, NotEqual, Less, AtMost}
use Rattle.bk_raw.specs.declared.operator.InfixOp.TheVariants.{Greater, AtLeast, Plus, Minus, Times, Divide, Mod}
use Rattle.bk_raw.specs.declared.operator.WordOp.TheVariants.{Not, BoolOf, Succ, Pred}
use Rattle.bk_raw.specs.declared.operator.Constant.{Constant}
use Rattle.bk_raw.specs.declared.operator.Constant.TheVariants.{True, False, MaxInt, MinInt}
use Rattle.bk_raw.specs.Trees.RawTree.{RawTree, raw, raw_name, raw_number, raw_constant, raw_word, raw_negative, raw_infix, raw_inverse}
use Rattle.bk_raw.specs.Trees.RawTree.{raw_image, raw_apply, raw_composition, raw_pair, raw_extension, RawTrees, no_trees, tree_and}
use Rattle.bk_raw.specs.Meaning.Names.{Names, Meaning, element_name, global}
use Rattle.bk_raw.specs.Meaning.TermReading.{name_of}
use Rattle.bk_statics.specs.Typings.{Target, variable_target, target, type_at}
use Rattle.bk_phases.specs.Scope.{meaning_of, Local, Written, is_there, unless}
use Rattle.bk_phases.specs.Term.{Term}
use Rattle.bk_raw.specs.declared.term.RawName.{RawName}
use Rattle.bk_statics.specs.Components.{abstract_names}
use Rattle.bk_phases.specs.Statement.{Statement, skip_at, assign_at, update_at, member_at, such_at, call_at, pre_at, assert_at, if_at}
use Rattle.bk_phases.specs.Statement.{guard_at, choice_at, else_at, branches_at, any_at, var_at, loop_at, par_at, seq_at}
use Rattle.bk_phases.specs.Types.{Types}
use Rattle.bk_phases.specs.Formulas.{formula}
use Rattle.bk_phases.specs.Resolved.{LevelVariable, Operation, Resolved}
use Rattle.bk_phases.specs.Parts.{statements}
use Rattle.bk_phases.specs.NoType.{is_scalar_type}
use Rattle.bk_phases.specs.Values.{is_within}

-- ---- arrays
-- D of f : D --> E
abbrev pub domain_in : Clue → Option Formula
domain_in (in_domain (binary TotalOf d e)) = Some d
domain_in _ = None

-- the domain that the variable is declared with, where it is an array of the development's last level
abbrev pub declared_domain : Development → ℕ → Option Formula
declared_domain dev x = cond (is_there (row_of (arrays_of dev) x)) (domain_in (typing_clue (Some x) (reversed dev.levels []))) None

-- whether two bounds are the same number or the same constant
abbrev pub same_bound : Formula → Formula → Bool
same_bound (literal a) (literal b) = int_le a b && int_le b a
same_bound (variable m) (variable n) = nat_eq m n
same_bound _ _ = false

-- whether a domain is the one that an array is declared with: an interval of numbers and constants, BOOL or a set
abbrev pub same_domain : Formula → Option Formula → Bool
same_domain (binary Range a b) (Some (binary Range c d)) = same_bound a c && same_bound b d
same_domain (named Booleans) (Some (named Booleans)) = true
same_domain (named (Enum m)) (Some (named (Enum n))) = nat_eq m n
same_domain _ _ = false

-- ---- expressions and conditions
-- the types of variables, the domains that arrays are declared with, and the names in scope of what is executed
pub record Storage : Type 0 where
  pub types : Types
  pub domain : ℕ → Option Formula
  pub names : Names

-- the same in the scope of a term
abbrev pub at_term : Storage → Term → Storage
at_term m t = record { types = m.types; domain = m.domain; names = t.names }

-- whether it is the name of an element, or of a variable or constant with a scalar type
abbrev pub is_scalar_name : Storage → Meaning → Bool
is_scalar_name m (element_name s e) = true
is_scalar_name m (global n t) = is_scalar_type (m.types.of n)
is_scalar_name m _ = false

-- whether it is the name of an array
abbrev pub is_array : Storage → Target → Bool
is_array m (variable_target n) = is_there (m.domain n)
is_array m _ = false

-- whether it is TRUE, FALSE, MAXINT or MININT
abbrev pub is_literal_word : Constant → Bool
is_literal_word True = true
is_literal_word False = true
is_literal_word MaxInt = true
is_literal_word MinInt = true
is_literal_word _ = false

-- what an operator between two terms does in B0
pub data Between : Type 0 where
  -- + - * / mod: a number of two numbers
  calculates : Between
  -- = /= < <= > >=: a condition on two expressions
  compares : Between
  -- & or: a condition on two conditions
  connects : Between
  -- => and <=> have no code, but conditions on both sides
  implies : Between
  -- all others have no code
  has_no_code : Between

-- by the operator
abbrev pub between : InfixOp → Between
between Plus = calculates
between Minus = calculates
between Times = calculates
between Divide = calculates
between Mod = calculates
between Equal = compares
between NotEqual = compares
between Less = compares
between AtMost = compares
between Greater = compares
between AtLeast = compares
between And = connects
between Or = connects
between Implies = implies
between Equivalent = implies
between _ = has_no_code

-- what is not B0 in the parts of a term that is not B0, or where these are, the term itself
abbrev pub innermost : ℕ → List ℕ → List ℕ
innermost at [] = at ∷ []
innermost at (p ∷ ps) = p ∷ ps

-- what is not B0 in a sum: in its parts; in any other expression between two terms: in its parts, or the whole
abbrev pub not_sum : Between → ℕ → List ℕ → List ℕ
not_sum calculates at parts = parts
not_sum _ at parts = innermost at parts

-- the same of f(e), by the name that f is, and by what is not B0 in f and in e
abbrev pub not_element : Storage → ℕ → Option (List ℕ) → List ℕ → List ℕ → List ℕ
not_element m at (Some x) f e = cond (is_array m (target m.names x)) e (innermost at (f ++ e))
not_element m at None f e = innermost at (f ++ e)

-- the same of a condition between two terms, by what is no condition in its sides, and by what is no expression there
abbrev pub not_comparison : Between → ℕ → List ℕ → List ℕ → List ℕ
not_comparison connects at conditions expressions = conditions
not_comparison compares at conditions expressions = expressions
not_comparison implies at conditions expressions = innermost at conditions
not_comparison _ at conditions expressions = innermost at expressions

abbrev mutual
  -- literals within INT, constants, elements, TRUE, FALSE, scalar names, f(e), +, -, *, /, mod, unary minus, succ, pred and bool(C)
  pub not_expression : Storage → RawTree → List ℕ
  not_expression m (raw at (raw_number z)) = unless (is_within m.types.max z) at
  not_expression m (raw at (raw_constant c)) = unless (is_literal_word c) at
  not_expression m (raw at (raw_name x)) = unless (is_scalar_name m (meaning_of m.names x)) at
  not_expression m (raw at (raw_apply f e)) = not_element m at (name_of f) (not_expression m f) (not_expression m e)
  not_expression m (raw at (raw_infix o a b)) = not_sum (between o) at (not_expression m a ++ not_expression m b)
  not_expression m (raw at (raw_negative a)) = not_expression m a
  not_expression m (raw at (raw_word Succ a)) = not_expression m a
  not_expression m (raw at (raw_word Pred a)) = not_expression m a
  not_expression m (raw at (raw_word BoolOf p)) = not_condition m p
  not_expression m (raw at (raw_word o a)) = innermost at (not_expression m a)
  not_expression m (raw at (raw_inverse a)) = innermost at (not_expression m a)
  not_expression m (raw at (raw_image a b)) = innermost at (not_expression m a ++ not_expression m b)
  not_expression m (raw at (raw_composition a b)) = innermost at (not_expression m a ++ not_expression m b)
  not_expression m (raw at (raw_pair a b)) = innermost at (not_expression m a ++ not_expression m b)
  not_expression m (raw at (raw_extension es)) = innermost at (not_expressions m es)
  not_expression m (raw at _) = at ∷ []

  -- several expressions
  pub not_expressions : Storage → RawTrees → List ℕ
  not_expressions m no_trees = []
  not_expressions m (tree_and e es) = not_expression m e ++ not_expressions m es

  -- = and /= on scalars of one type, <, <=, >, >= on integers, &, or, not
  pub not_condition : Storage → RawTree → List ℕ
  not_condition m (raw at (raw_word Not p)) = not_condition m p
  not_condition m (raw at (raw_infix o a b)) =
      not_comparison (between o) at (not_condition m a ++ not_condition m b) (not_expression m a ++ not_expression m b)
  not_condition m (raw at _) = at ∷ []

-- ---- statements
-- the value of a fill: a literal within INT, TRUE, FALSE, an element, a constant or a scalar name
abbrev pub is_fill_value : Storage → Formula → Bool
is_fill_value m (literal z) = is_within m.types.max z
is_fill_value m (truth_value b) = true
is_fill_value m (element s i) = true
is_fill_value m (variable n) = is_scalar_type (m.types.of n)
is_fill_value m _ = false

-- D * {E} for an array that is declared with D
abbrev pub is_fill : Storage → Target → Formula → Bool
is_fill m (variable_target n) (binary Product d (unary Single e)) = same_domain d (m.domain n) && is_fill_value m e
is_fill m _ f = false

-- x := E for a scalar, or a fill of an array
abbrev pub not_assignment : Storage → ℕ → Written → Term → List ℕ
not_assignment m at x e = cond (is_scalar_type (type_at m.types.of x.target))
    (not_expression (at_term m e) e.tree)
    (unless (is_fill m x.target (formula m.types e)) at)

-- skip, x := E, f(e) := E, a fill, S ; T, VAR, IF, WHILE and ASSERT, whose predicate is not executed; nor are a loop's invariant and
-- variant
abbrev pub not_statement : Storage → Statement → List ℕ
not_statement m (skip_at at) = []
not_statement m (assign_at at (x ∷ []) (e ∷ [])) = not_assignment m at x e
not_statement m (update_at at f e v) =
    unless (is_array m f.target) at ++ not_expression (at_term m e) e.tree ++ not_expression (at_term m v) v.tree
not_statement m (seq_at at s t) = []
not_statement m (var_at at xs s) = []
not_statement m (if_at at p s t) = not_condition (at_term m p) p.tree
not_statement m (loop_at at p s i v) = not_condition (at_term m p) p.tree
not_statement m (assert_at at p s) = []
not_statement m (assign_at at _ _) = at ∷ []
not_statement m (member_at at _ _ _) = at ∷ []
not_statement m (such_at at _ _) = at ∷ []
not_statement m (call_at at _) = at ∷ []
not_statement m (pre_at at _ _) = at ∷ []
not_statement m (guard_at at _ _) = at ∷ []
not_statement m (choice_at at _ _) = at ∷ []
not_statement m (else_at at _ _) = at ∷ []
not_statement m (branches_at at _) = at ∷ []
not_statement m (any_at at _ _ _) = at ∷ []
not_statement m (par_at at _ _) = at ∷ []

-- ---- declarations
-- variables that are neither scalars nor arrays, the first having the number n
abbrev pub not_stored : Storage → ℕ → List LevelVariable → List ℕ
not_stored m n [] = []
not_stored m n (v ∷ vs) = unless (is_scalar_type (m.types.of n) || is_there (m.domain n)) v.name.at ++ not_stored m (suc n) vs

-- an input or output that is no scalar
abbrev pub not_scalar : Storage → Local → List ℕ
not_scalar m x = unless (is_scalar_type (m.types.of x.number)) x.name.at

-- what is not B0 in an implementation, whose arrays are those of the development that it would make
abbrev pub not_b0 : Types → Development → Resolved → List ℕ
not_b0 types made r =
    let m : Storage = record { types = types; domain = declared_domain made; names = r.globals } in
    cond (is_implementing r.component.kind)
    (map (λ (x : RawName). x.at) (abstract_names r.component.variables)
    ++ not_stored m r.variables_at r.variables
    ++ flat_map (λ (o : Operation). flat_map (not_scalar m) (o.inputs ++ o.outputs)) r.operations
    ++ flat_map (not_statement m) (statements r))
    []
