-- What numbers the names of a component have, and what is in scope where. Constants come first, then variables (those that come from
-- above first), inputs at the machine, outputs, what the initialisation binds, and what the bodies bind, in the machine's order.
-- Source: B Language Reference Manual, visibility; the numbers are this project's.
use Rattle.std.specs.Prelude.{ℕ, suc, ◌+◌, Bool, true, false, cond, ◌||◌, List, [], ◌∷◌, ◌++◌, length, Option, None, Some}
use Rattle.std.specs.Str.{bytes_eq}
use Rattle.bk_form.specs.Role.{bind}
use Rattle.bk_form.specs.Table.{SetEntry}
use Rattle.bk_dev.specs.Development.{Head, Development}
use Rattle.bk_dev.specs.Facts.{home_of}
use Rattle.bk_raw.specs.declared.term.RawName.{RawName}
use Rattle.bk_raw.specs.Trees.ComponentTree.{RawSet, RawOperation}
use Rattle.bk_raw.specs.Trees.SubTree.{sub, sub_skip}
use Rattle.bk_raw.specs.Meaning.Names.{Names, Named, global}
use Rattle.bk_raw.specs.Meaning.Binders.{is_text}
use Rattle.bk_raw.specs.Meaning.ScopeReading.{set_names}
use Rattle.bk_statics.specs.Components.{WrittenVariable, Component, is_machine, initialisation}
use Rattle.bk_statics.specs.Typings.{or_else, as_variable, numbered, interval, variable_in, variable_named}
use Rattle.bk_statics.specs.Binders.{binder_count, texts}
use Rattle.bk_statics.specs.Above.{globals_of, upper_of, inputs_named, outputs_named, is_concrete}

-- ---- sets
-- sets with their elements, of which there are as many as names
abbrev pub entries_of : List RawSet → List SetEntry
entries_of [] = []
entries_of (s ∷ ss) = record { name = s.name.text; elements = texts s.elements; size = length (texts s.elements) } ∷ entries_of ss

-- ---- variables
-- a variable of the level: its name, the variable of that name at the level above, and whether it is concrete
pub record Declared : Type 0 where
  pub text : List ℕ
  pub higher : Option ℕ
  pub is_concrete : Bool

-- the number of a variable's name
abbrev pub number_in : Named → ℕ
number_in n = or_else 0 (variable_in n.meaning)

-- a concrete variable stands at the level below as if it were declared there
abbrev pub carried_one : Named → Declared
carried_one n = record { text = n.text; higher = Some (number_in n); is_concrete = true }

-- the concrete ones among the variables above
abbrev pub carried : Development → Names → List Declared
carried dev [] = []
carried dev (n ∷ ns) = cond (is_concrete (home_of dev (number_in n))) (carried_one n ∷ carried dev ns) (carried dev ns)

-- the names of variables
abbrev pub declared_texts : List Declared → List (List ℕ)
declared_texts [] = []
declared_texts (d ∷ ds) = d.text ∷ declared_texts ds

-- a variable that the component declares
abbrev pub own_one : Names → WrittenVariable → Declared
own_one upper v = record { text = v.name.text; higher = variable_named upper v.name.text; is_concrete = v.is_concrete }

-- those that it declares, but for those that come from above anyway
abbrev pub own : List (List ℕ) → Names → List WrittenVariable → List Declared
own before upper [] = []
own before upper (v ∷ vs) = cond (is_text before v.name.text) (own before upper vs) (own_one upper v ∷ own before upper vs)

-- all variables of the level
abbrev pub all_declared : Development → Names → List WrittenVariable → List Declared
all_declared dev upper vs = carried dev upper ++ own (declared_texts (carried dev upper)) upper vs

-- their names, with the numbers from n on
abbrev pub names_from : ℕ → List Declared → Names
names_from n [] = []
names_from n (d ∷ ds) = as_variable d.text n ∷ names_from (suc n) ds

-- the variable n with the one of its name above, if there is one
abbrev pub link_of : ℕ → Option ℕ → List (ℕ × ℕ) → List (ℕ × ℕ)
link_of n None ls = ls
link_of n (Some m) ls = (n, m) ∷ ls

-- each variable with the one of its name above
abbrev pub links_from : ℕ → List Declared → List (ℕ × ℕ)
links_from n [] = []
links_from n (d ∷ ds) = link_of n d.higher (links_from (suc n) ds)

-- the name, where it does not stand above
abbrev pub if_new : Option ℕ → RawName → List RawName → List RawName
if_new None x xs = x ∷ xs
if_new (Some n) x xs = xs

-- the variables whose types are found here: a variable that stands under its name above has the type that it has there
abbrev pub fresh : Names → List WrittenVariable → List RawName
fresh upper [] = []
fresh upper (v ∷ vs) = if_new (variable_named upper v.name.text) v.name (fresh upper vs)

-- ---- operations
-- an operation with its inputs, and the machine's outputs
pub record Headed : Type 0 where
  pub operation : RawOperation
  pub inputs : Names
  pub machine_outputs : Names

-- at the machine the inputs have the numbers from n on
abbrev pub machine_headed : ℕ → List RawOperation → List Headed
machine_headed n [] = []
machine_headed n (o ∷ os) =
    record { operation = o; inputs = numbered n o.inputs; machine_outputs = [] } ∷ machine_headed (n + length o.inputs) os

-- and these are the headers
abbrev pub machine_heads : ℕ → List RawOperation → List Head
machine_heads n [] = []
machine_heads n (o ∷ os) = record { name = o.name.text; inputs = interval n (length o.inputs); outputs = length o.outputs } ∷
    machine_heads (n + length o.inputs) os

-- how many inputs there are
abbrev pub input_count : List RawOperation → ℕ
input_count [] = 0
input_count (o ∷ os) = length o.inputs + input_count os

-- what stands for an operation that is missing: one that does nothing
abbrev pub no_operation : RawOperation
no_operation = record { outputs = []; name = record { at = 0; text = [] }; inputs = []; body = sub 0 sub_skip }

-- the operation of a name
abbrev pub operation_named : List ℕ → List RawOperation → RawOperation
operation_named x [] = no_operation
operation_named x (o ∷ os) = cond (bytes_eq o.name.text x) o (operation_named x os)

-- whether one of the headers has the name
abbrev pub is_headed : List Head → List ℕ → Bool
is_headed [] x = false
is_headed (h ∷ hs) x = bytes_eq h.name x || is_headed hs x

-- how many outputs and binders an operation has
abbrev pub size_of : RawOperation → ℕ
size_of o = length o.outputs + binder_count o.body

-- how many the operations of these headers have
abbrev pub sizes : List Head → List RawOperation → ℕ
sizes [] os = 0
sizes (h ∷ hs) os = size_of (operation_named h.name os) + sizes hs os

-- how many the others have
abbrev pub other_sizes : List Head → List RawOperation → ℕ
other_sizes hs [] = 0
other_sizes hs (o ∷ os) = cond (is_headed hs o.name.text) 0 (size_of o) + other_sizes hs os

-- an input below is the machine's input of its name; one that the machine's header lacks has a number after all others, and so no type
abbrev pub inputs_by : ℕ → Names → List RawName → Names
inputs_by far names [] = []
inputs_by far names (x ∷ xs) = as_variable x.text (or_else far (variable_named names x.text)) ∷ inputs_by far names xs

-- an operation below, with the inputs and outputs that the machine has
abbrev pub headed_by : ℕ → Names → Names → RawOperation → Headed
headed_by far inputs outputs o = record { operation = o; inputs = inputs_by far inputs o.inputs; machine_outputs = outputs }

-- each header with the operation of its name, from operation o on
abbrev pub lower_headed : ℕ → Development → ℕ → List Head → List RawOperation → List Headed
lower_headed far dev o [] os = []
lower_headed far dev o (h ∷ hs) os =
    headed_by far (inputs_named dev.table h.inputs) (outputs_named dev o) (operation_named h.name os) ∷ lower_headed far dev (suc o) hs os

-- the operations that the machine lacks, which are refused in the end
abbrev pub other_headed : ℕ → List Head → List RawOperation → List Headed
other_headed far hs [] = []
other_headed far hs (o ∷ os) = cond (is_headed hs o.name.text) (other_headed far hs os) (headed_by far [] [] o ∷ other_headed far hs os)

-- an operation whose outputs, and whose binders, have the numbers from these on
pub record Placed : Type 0 where
  pub headed : Headed
  pub outputs_at : ℕ
  pub binders_at : ℕ

-- operations, the outputs of the first having the numbers from n on and its binders those from b on
abbrev pub placed : ℕ → ℕ → List Headed → List Placed
placed n b [] = []
placed n b (h ∷ hs) =
    record { headed = h; outputs_at = n; binders_at = b } ∷ placed (n + length h.operation.outputs) (b + binder_count h.operation.body) hs

-- how many outputs they have
abbrev pub output_count : List Headed → ℕ
output_count [] = 0
output_count (h ∷ hs) = length h.operation.outputs + output_count hs

-- ---- the component
-- the numbers and names of a component
pub record Plan : Type 0 where
  -- the level's number
  pub level : ℕ
  -- the first numbers of constants, variables, inputs, outputs and binders, those of the initialisation being first
  pub constants_at : ℕ
  pub variables_at : ℕ
  pub inputs_at : ℕ
  pub outputs_at : ℕ
  pub binders_at : ℕ
  -- sets, elements and constants of this level and those above
  pub globals : Names
  -- the variables of the level above
  pub upper : Names
  -- the level's own
  pub variables : List Declared
  pub heads : List Head
  pub headed : List Headed

-- the headers: the machine's
abbrev pub plan_heads : Development → Component → ℕ → List Head
plan_heads dev c n = cond (is_machine c.kind) (machine_heads n c.operations) dev.heads

-- the operations in the machine's order
abbrev pub plan_headed : Development → Component → ℕ → ℕ → List Headed
plan_headed dev c n far = cond (is_machine c.kind) (machine_headed n c.operations)
    (lower_headed far dev 0 dev.heads c.operations ++ other_headed far dev.heads c.operations)

-- sets, elements and constants of the component, whose first set and first constant have these numbers, and of the levels above
abbrev pub plan_globals : Development → Component → Names
plan_globals dev c =
    bind (numbered (length dev.table.variables) c.constants) (set_names (length dev.table.sets) (entries_of c.sets) ++ globals_of dev)

-- the component's plan below these levels
abbrev pub plan : Development → Component → Plan
plan dev c =
    let base = length dev.table.variables in
    let vs = all_declared dev (upper_of dev) c.variables in
    let v = base + length c.constants in
    let i = v + length vs in
    let o = i + cond (is_machine c.kind) (input_count c.operations) 0 in
    let headed =
    plan_headed dev c i (o + (binder_count (initialisation c) + (sizes dev.heads c.operations + other_sizes dev.heads c.operations))) in
    record {
      level = length dev.levels;
      constants_at = base;
      variables_at = v;
      inputs_at = i;
      outputs_at = o;
      binders_at = o + output_count headed;
      globals = plan_globals dev c;
      upper = upper_of dev;
      variables = vs;
      heads = plan_heads dev c i;
      headed = headed;
    }

-- the operations with the numbers of their outputs and binders
abbrev pub operations_of : Plan → Component → List Placed
operations_of p c = placed p.outputs_at (p.binders_at + binder_count (initialisation c)) p.headed

-- ---- who sees what
-- the level's variables
abbrev pub level_names : Plan → Names
level_names p = names_from p.variables_at p.variables

-- the initialisation: sets, elements, constants and the level's variables
abbrev pub scope : Plan → Names
scope p = level_names p ++ p.globals

-- the invariant and the assertions, which see the variables of the level above too; an own name wins
abbrev pub invariant_scope : Plan → Names
invariant_scope p = level_names p ++ (p.upper ++ p.globals)

-- a body, which sees its inputs and outputs too
abbrev pub body_scope : Plan → Placed → Names
body_scope p o = bind (numbered o.outputs_at o.headed.operation.outputs) (bind o.headed.inputs (scope p))

-- where the conjuncts are read that type inputs
abbrev pub input_scope : Plan → Placed → Names
input_scope p o = bind (numbered o.outputs_at o.headed.operation.outputs) (scope p)
