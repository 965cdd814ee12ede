-- A component whose names are resolved, below the levels above it. Its numbers come after theirs: constants, variables (those that come
-- from above first), what the initialisation binds, and for each operation, in the machine's order, its inputs (at the machine), its
-- outputs and what its body binds.
-- Source: B Language Reference Manual, visibility; the numbers are this project's.
use Rattle.std.specs.Prelude.{ℕ, suc, ◌+◌, Bool, true, false, cond, not, List, [], ◌∷◌, ◌++◌, map, length, Option, None, Some}
use Rattle.std.specs.List.{flat_map, filter, list_any}
use Rattle.std.specs.Str.{bytes_eq}
use Rattle.bk_form.specs.Table.{SetEntry}
use Rattle.bk_dev.specs.Development.{Head, Development}
use Rattle.bk_dev.specs.Facts.{home_of}
use Rattle.bk_raw.specs.declared.component.RawValue.{RawValue}
use Rattle.bk_raw.specs.declared.term.RawName.{RawName}
use Rattle.bk_raw.specs.Trees.RawTree.{RawTree}
use Rattle.bk_raw.specs.Trees.ComponentTree.{RawSet, RawOperation}
use Rattle.bk_raw.specs.Meaning.Names.{Names, Named}
use Rattle.bk_raw.specs.Meaning.Binders.{is_text}
use Rattle.bk_raw.specs.Meaning.ScopeReading.{set_names}
use Rattle.bk_statics.specs.Typings.{variable_target, target, variable_named, or_else, variable_in}
use Rattle.bk_phases.specs.Scope.{Local, with_numbers, in_scope, Written, written, is_there}
use Rattle.bk_phases.specs.Term.{Term, a_predicate, a_value, placed}
use Rattle.bk_phases.specs.Statement.{Statement, outermost}
use Rattle.bk_phases.specs.Resolve.{Scope, declared, inside, after, resolved}
use Rattle.bk_phases.specs.Symbols.{Source, no_source, from_conjunct, from_name, a_constant, a_level_variable, an_input}
use Rattle.bk_phases.specs.Symbols.{an_output, Symbol, symbol, by_conjuncts, first_assignment, symbols_of}
use Rattle.bk_statics.specs.Components.{WrittenVariable, Component, is_machine, initialisation}
use Rattle.bk_statics.specs.Above.{globals_of, upper_of, inputs_named, outputs_named, is_concrete}

-- ---- variables
-- a variable of the level: its name where it is declared (at the component's name, where it only comes from above), whether it is
-- concrete, and the variable of its name at the level above
pub record LevelVariable : Type 0 where
  pub name : RawName
  pub is_concrete : Bool
  pub higher : Option ℕ

-- where the component declares the name, or else the component's own place
abbrev pub declaration_of : List WrittenVariable → ℕ → List ℕ → RawName
declaration_of [] at text = record { at = at; text = text }
declaration_of (v ∷ vs) at text = cond (bytes_eq v.name.text text) v.name (declaration_of vs at text)

-- the concrete ones among the variables above: a concrete variable stands at the level below as if it were declared there
abbrev pub carried : Development → Names
carried dev = filter (λ (n : Named). is_concrete (home_of dev (or_else 0 (variable_in n.meaning)))) (upper_of dev)

-- their names
abbrev pub carried_texts : Development → List (List ℕ)
carried_texts dev = map (λ (n : Named). n.text) (carried dev)

-- such a variable at the level below
abbrev pub carried_variable : Component → Named → LevelVariable
carried_variable c n = record { name = declaration_of c.variables c.name.at n.text; is_concrete = true; higher = variable_in n.meaning }

-- a variable that the component declares
abbrev pub own_variable : Names → WrittenVariable → LevelVariable
own_variable upper v = record { name = v.name; is_concrete = v.is_concrete; higher = variable_named upper v.name.text }

-- the variables of the level: those that come from above, and the others that it declares
abbrev pub level_variables : Development → Component → List LevelVariable
level_variables dev c =
    map (carried_variable c) (carried dev)
    ++ map (own_variable (upper_of dev)) (filter (λ (v : WrittenVariable). not (is_text (carried_texts dev) v.name.text)) c.variables)

-- the names of those that are new here, whose types the invariant tells
abbrev pub new_variables : List LevelVariable → List RawName
new_variables vs = map (λ (v : LevelVariable). v.name) (filter (λ (v : LevelVariable). not (is_there v.higher)) vs)

-- ---- operations
-- the names that an operation's inputs and outputs have at the machine
pub record MachineHeader : Type 0 where
  pub inputs : Names
  pub outputs : Names

-- those of the machine's operation of this name, the headers being those from operation o on
abbrev pub machine_header : Development → ℕ → List Head → List ℕ → MachineHeader
machine_header dev o [] name = record { inputs = []; outputs = [] }
machine_header dev o (h ∷ hs) name = cond (bytes_eq h.name name)
    (record { inputs = inputs_named dev.table h.inputs; outputs = outputs_named dev o })
    (machine_header dev (suc o) hs name)

-- whether one of the headers has the name
abbrev pub is_headed : List Head → List ℕ → Bool
is_headed hs name = list_any (λ (h : Head). bytes_eq h.name name) hs

-- the operations in the order of these headers, and then all others
abbrev pub in_order : List Head → List RawOperation → List RawOperation
in_order hs os =
    flat_map (λ (h : Head). filter (λ (o : RawOperation). bytes_eq h.name o.name.text) os) hs
    ++ filter (λ (o : RawOperation). not (is_headed hs o.name.text)) os

-- an operation, with its symbols in the order of their numbers
pub record Operation : Type 0 where
  pub written : RawOperation
  pub inputs : List Local
  pub outputs : List Local
  pub body : Statement
  pub symbols : List Symbol

-- inputs, which all levels share: each has the machine's number, or where that lacks it a number of its own, from n on
abbrev pub numbered_inputs : Names → ℕ → List RawName → List Local
numbered_inputs known n [] = []
numbered_inputs known n (x ∷ xs) = cond (is_there (variable_named known x.text))
    (record { name = x; number = or_else 0 (variable_named known x.text) } ∷ numbered_inputs known n xs)
    (record { name = x; number = n } ∷ numbered_inputs known (suc n) xs)

-- those that have numbers of their own
abbrev pub own_inputs : Names → List RawName → List RawName
own_inputs known xs = filter (λ (x : RawName). not (is_there (variable_named known x.text))) xs

-- at the machine inputs are typed in the outermost precondition; below, those that the machine's header lacks have no type
abbrev pub input_symbols : Bool → List RawName → List Term → List Symbol
input_symbols true xs (p ∷ ps) = by_conjuncts an_input xs p
input_symbols _ xs _ = map (λ (x : RawName). symbol an_input x no_source) xs

-- at the machine outputs are typed by their first assignments; below, they have the types that they have in the machine
abbrev pub output_symbol : Bool → Names → Statement → Local → Symbol
output_symbol true known body x = symbol an_output x.name (first_assignment x.number body)
output_symbol false known body x = symbol an_output x.name (from_name (target known x.name.text))

-- the operation in the scope of all bodies, with the next numbers; at_machine says whether the component is the machine
abbrev pub resolved_operation : Bool → Scope → MachineHeader → RawOperation → Operation
resolved_operation at_machine c h o =
    let new = own_inputs h.inputs o.inputs in
    let inputs = numbered_inputs h.inputs c.next o.inputs in
    let with_inputs : Scope = record { names = in_scope inputs ++ c.names; above = c.above; next = c.next + length new } in
    let outputs = declared with_inputs o.outputs in
    let body = resolved (inside outputs with_inputs) o.body in
    record {
      written = o;
      inputs = inputs;
      outputs = outputs;
      body = body;
      symbols =
          input_symbols at_machine new (outermost body)
          ++ (map (output_symbol at_machine h.outputs body) outputs ++ symbols_of body);
    }

-- the scope after so many names
abbrev pub after_names : ℕ → Scope → Scope
after_names n c = record { names = c.names; above = c.above; next = c.next + n }

-- the operations, one after another
abbrev pub resolved_operations : Development → Bool → Scope → List RawOperation → List Operation
resolved_operations dev at_machine c [] = []
resolved_operations dev at_machine c (o ∷ os) =
    let first = resolved_operation at_machine c (machine_header dev 0 dev.heads o.name.text) o in
    first ∷ resolved_operations dev at_machine (after_names (length first.symbols) c) os

-- ---- the component
-- an entry of VALUES
pub record Entry : Type 0 where
  pub constant : Written
  pub value : Term

-- a component whose names are resolved
pub record Resolved : Type 0 where
  pub above : Development
  pub component : Component
  -- its variables, and their numbers
  pub variables : List LevelVariable
  pub variables_at : ℕ
  -- sets, elements and constants of this level and those above
  pub globals : Names
  pub properties : Option Term
  pub invariant : Option Term
  pub assertions : List Term
  pub entries : List Entry
  pub init : Statement
  pub operations : List Operation
  -- all names that it declares, in the order of their numbers
  pub symbols : List Symbol

-- a set with its elements, of which there are as many as names
abbrev pub set_entry : RawSet → SetEntry
set_entry s = record { name = s.name.text; elements = map (λ (x : RawName). x.text) s.elements; size = length s.elements }

-- all sets
abbrev pub entries_of : List RawSet → List SetEntry
entries_of ss = map set_entry ss

-- the term of a clause in its place, if there is such a clause
abbrev pub stated : Names → Option RawTree → Option Term
stated names None = None
stated names (Some p) = Some (placed names a_predicate p)

-- constants are typed in PROPERTIES
abbrev pub constant_symbols : List RawName → Option Term → List Symbol
constant_symbols xs None = map (λ (x : RawName). symbol a_constant x no_source) xs
constant_symbols xs (Some p) = by_conjuncts a_constant xs p

-- a name of a group by the conjuncts of a predicate, if there is one
abbrev pub source_in : List RawName → RawName → Option Term → Source
source_in group x None = no_source
source_in group x (Some p) = from_conjunct group x p

-- variables are typed in INVARIANT, but for those that stand above, which have the type that they have there
abbrev pub source_of_variable : List RawName → Option Term → LevelVariable → Source
source_of_variable group p v = above_or v.higher
  where
    above_or : Option ℕ → Source
    above_or None = source_in group v.name p
    above_or (Some n) = from_name (variable_target n)

-- the symbols of variables
abbrev pub variable_symbols : List LevelVariable → Option Term → List Symbol
variable_symbols vs p =
    map (λ (v : LevelVariable). symbol (a_level_variable v.is_concrete v.higher) v.name (source_of_variable (new_variables vs) p v)) vs

-- an entry of VALUES, whose term sees what properties see
abbrev pub entry : Names → RawValue → Entry
entry globals v = record { constant = written globals v.name; value = placed globals a_value v.value }

-- the component below these levels
abbrev pub resolved_component : Development → Component → Resolved
resolved_component dev c =
    let base = length dev.table.variables in
    let upper = upper_of dev in
    let vs = level_variables dev c in
    let v = base + length c.constants in
    let globals = in_scope (with_numbers base c.constants) ++ (set_names (length dev.table.sets) (entries_of c.sets) ++ globals_of dev) in
    let own = in_scope (with_numbers v (map (λ (x : LevelVariable). x.name) vs)) in
    let joined = own ++ (upper ++ globals) in
    let scope : Scope = record { names = own ++ globals; above = upper; next = v + length vs } in
    let init = resolved scope (initialisation c) in
    let ordered = cond (is_machine c.kind) c.operations (in_order dev.heads c.operations) in
    let operations = resolved_operations dev (is_machine c.kind) (after init scope) ordered in
    let properties = stated globals c.properties in
    record {
      above = dev;
      component = c;
      variables = vs;
      variables_at = v;
      globals = globals;
      properties = properties;
      invariant = stated joined c.invariant;
      assertions = map (placed joined a_predicate) c.assertions;
      entries = map (entry globals) c.values;
      init = init;
      operations = operations;
      symbols = constant_symbols c.constants properties
          ++ (variable_symbols vs (stated (upper ++ globals) c.invariant)
          ++ (symbols_of init ++ flat_map (λ (o : Operation). o.symbols) operations));
    }
