-- The level that a component without a fault is, and the development with it.
-- Source: B-Book.
use Rattle.std.specs.Prelude.{ℕ, suc, true, false, cond, List, [], ◌∷◌, ◌++◌, map, length, Option, None, Some}
use Rattle.std.specs.List.{filter_map}
use Rattle.bk_form.specs.Table.{Table, VariableEntry}
use Rattle.bk_form.specs.Formula.{Formula, variable, btrue, unary, binary}
use Rattle.bk_form.specs.declared.operator.UnOp.TheVariants.{Single, Not as Negation}
use Rattle.bk_form.specs.declared.operator.BinOp.TheVariants.{And as Conjunction, In, Over, Maps}
use Rattle.bk_gsl.specs.Substitution.{Substitution, skip, assign, pre, guard, choice, if_else, any, seq, par, assert, becomes_such, loop}
use Rattle.bk_dev.specs.declared.kind.Home.{Home}
use Rattle.bk_dev.specs.declared.kind.Home.TheVariants.{Constant, Input, Abstract, Concrete, Inner}
use Rattle.bk_dev.specs.Development.{Head, Body, Level, Development}
use Rattle.bk_raw.specs.Meaning.Names.{level_name}
use Rattle.bk_raw.specs.Meaning.Binders.{or_bool}
use Rattle.bk_statics.specs.Typings.{Typing, as_number, or_else}
use Rattle.bk_phases.specs.Scope.{Local, numbers, Written}
use Rattle.bk_phases.specs.Term.{Term}
use Rattle.bk_phases.specs.Statement.{Statement, skip_at, assign_at, update_at, member_at, such_at, call_at, pre_at, assert_at, if_at}
use Rattle.bk_phases.specs.Statement.{guard_at, choice_at, else_at, branches_at, any_at, var_at, loop_at, par_at, seq_at, inner_body}
use Rattle.bk_phases.specs.Statement.{outermost}
use Rattle.bk_phases.specs.Symbols.{Role, a_constant, a_level_variable, an_input, an_output, Symbol}
use Rattle.bk_statics.specs.Components.{is_machine}
use Rattle.bk_phases.specs.Types.{Types}
use Rattle.bk_phases.specs.Formulas.{formula}
use Rattle.bk_phases.specs.Resolved.{LevelVariable, Operation, Entry, Resolved, entries_of}
use Rattle.bk_phases.specs.Values.{value_of}

-- ---- substitutions
-- the variable of a written name; what is none is refused
abbrev pub number_for : Written → ℕ
number_for x = or_else 0 (as_number x.target)

-- x, y := E, F: each variable with its term
abbrev pub assignments : Types → List Written → List Term → List (ℕ × Formula)
assignments types (x ∷ xs) (e ∷ es) = (number_for x, formula types e) ∷ assignments types xs es
assignments types _ _ = []

-- each variable with its old value
abbrev pub old_pairs : List (Written × Local) → List (ℕ × ℕ)
old_pairs xs = map (λ (x : Written × Local). (number_for x.0, x.1.number)) xs

-- f <+ {e |-> v}
abbrev pub overridden : ℕ → Formula → Formula → Formula
overridden f e v = binary Over (variable f) (unary Single (binary Maps e v))

-- z : E ==> x := z
abbrev pub taken : ℕ → ℕ → Formula → Substitution
taken x z d = guard (binary In (variable z) d) (assign ((x, variable z) ∷ []))

-- the guards of a SELECT's branches
abbrev pub guards : Substitution → List Formula
guards (guard p s) = p ∷ []
guards (choice s t) = guards s ++ guards t
guards _ = []

-- the formula, and none of these holds, joined by & to the left
abbrev pub and_none_of : Formula → List Formula → Formula
and_none_of before [] = before
and_none_of before (q ∷ qs) = and_none_of (binary Conjunction before (unary Negation q)) qs

-- none of them holds
abbrev pub none_of : List Formula → Formula
none_of [] = btrue
none_of (p ∷ ps) = and_none_of (unary Negation p) ps

-- SELECT's branches, and its ELSE, which is guarded by the negations of their guards
abbrev pub with_else : Substitution → Substitution → Substitution
with_else s t = choice s (guard (none_of (guards s)) t)

-- the substitution of a development that it is; a call stands nowhere yet, and is skip
abbrev pub elaborated : Types → Statement → Substitution
elaborated types (skip_at at) = skip
elaborated types (assign_at at xs es) = assign (assignments types xs es)
elaborated types (update_at at f e v) = assign ((number_for f, overridden (number_for f) (formula types e) (formula types v)) ∷ [])
elaborated types (member_at at x z e) = any (z.number ∷ []) (taken (number_for x) z.number (formula types e))
elaborated types (such_at at xs p) = becomes_such (old_pairs xs) (formula types p)
elaborated types (call_at at es) = skip
elaborated types (pre_at at p s) = pre (formula types p) (elaborated types s)
elaborated types (assert_at at p s) = assert (formula types p) (elaborated types s)
elaborated types (if_at at p s t) = if_else (formula types p) (elaborated types s) (elaborated types t)
elaborated types (guard_at at p s) = guard (formula types p) (elaborated types s)
elaborated types (choice_at at s t) = choice (elaborated types s) (elaborated types t)
elaborated types (else_at at s t) = with_else (elaborated types s) (elaborated types t)
elaborated types (branches_at at s) = elaborated types s
elaborated types (any_at at xs p s) = any (numbers xs) (guard (formula types p) (elaborated types s))
elaborated types (var_at at xs s) = any (numbers xs) (elaborated types s)
elaborated types (loop_at at p s i v) = loop (formula types p) (elaborated types s) (formula types i) (formula types v)
elaborated types (par_at at s t) = par (elaborated types s) (elaborated types t)
elaborated types (seq_at at s t) = seq (elaborated types s) (elaborated types t)

-- ---- symbols
-- how a name of level k is written in the table: variables and outputs with their level, all others with their names alone
abbrev pub text_at : ℕ → Symbol → List ℕ
text_at k s = by_role s.role
  where
    by_role : Role → List ℕ
    by_role (a_level_variable b m) = level_name s.name.text k
    by_role an_output = level_name s.name.text k
    by_role _ = s.name.text

-- where a name of level k is at home
abbrev pub home_at : ℕ → Role → Home
home_at k a_constant = Constant
home_at k (a_level_variable true m) = Concrete k
home_at k (a_level_variable false m) = Abstract k
home_at k an_input = Input
home_at k _ = Inner k

-- the entries of the symbols, the first having the number n
abbrev pub table_entries : Typing → ℕ → ℕ → List Symbol → List VariableEntry
table_entries typing k n [] = []
table_entries typing k n (s ∷ ss) = record { text = text_at k s; of_type = or_bool (typing n) } ∷ table_entries typing k (suc n) ss

-- ---- the level
-- the formula of a clause, which is btrue where there is no such clause
abbrev pub stated_formula : Types → Option Term → Formula
stated_formula types None = btrue
stated_formula types (Some p) = formula types p

-- an operation: its outermost precondition, and the rest
abbrev pub body_of : Types → Operation → Body
body_of types o = record {
  condition = first_of (map (formula types) (outermost o.body));
  sub = elaborated types (inner_body o.body);
  outputs = numbers o.outputs;
}
  where
    first_of : List Formula → Formula
    first_of [] = btrue
    first_of (p ∷ ps) = p

-- its header, at the machine
abbrev pub head_of : Operation → Head
head_of o = record { name = o.written.name.text; inputs = numbers o.inputs; outputs = length o.outputs }

-- the variables from number n on that stand under their names at the level above, each with the one there
abbrev pub links_from : ℕ → List LevelVariable → List (ℕ × ℕ)
links_from n [] = []
links_from n (v ∷ vs) = link v.higher (links_from (suc n) vs)
  where
    link : Option ℕ → List (ℕ × ℕ) → List (ℕ × ℕ)
    link None ls = ls
    link (Some m) ls = (n, m) ∷ ls

-- the variables' numbers
abbrev pub numbers_from : {A : Type 0} → ℕ → List A → List ℕ
numbers_from n [] = []
numbers_from n (x ∷ xs) = n ∷ numbers_from (suc n) xs

-- the component as a level
abbrev pub level_of : Types → Resolved → Level
level_of types r = record {
  name = r.component.name.text;
  kind = r.component.kind;
  vars = numbers_from r.variables_at r.variables;
  properties = stated_formula types r.properties;
  invariant = stated_formula types r.invariant;
  links = links_from r.variables_at r.variables;
  assertions = map (formula types) r.assertions;
  init = elaborated types r.init;
  bodies = map (body_of types) r.operations;
}

-- the value that an entry gives to its constant
abbrev pub valued : Types → Entry → Option (ℕ × Formula)
valued types e = pair (as_number e.constant.target) (value_of types e)
  where
    pair : Option ℕ → Option Formula → Option (ℕ × Formula)
    pair (Some n) (Some f) = Some (n, f)
    pair _ _ = None

-- the table with the component's sets and symbols
abbrev pub table_with : Types → Resolved → Table
table_with types r = record {
  sets = r.above.table.sets ++ entries_of r.component.sets;
  variables = r.above.table.variables ++ table_entries types.of (length r.above.levels) (length r.above.table.variables) r.symbols;
}

-- the levels above with this level below, and its range of numbers
abbrev pub with_level : Types → Resolved → Development
with_level types r =
    let dev = r.above in
    let table = table_with types r in
    record {
      max = types.max;
      table = table;
      homes = dev.homes ++ map (λ (s : Symbol). home_at (length dev.levels) s.role) r.symbols;
      sets = table.sets;
      heads = cond (is_machine r.component.kind) (map head_of r.operations) dev.heads;
      levels = dev.levels ++ level_of types r ∷ [];
      values = filter_map (valued types) r.entries;
      extents = dev.extents ++ (length table.sets, length table.variables) ∷ [];
    }
