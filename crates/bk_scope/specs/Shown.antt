-- What the program's views of a component, and what it keeps of its names, stand for.
use Rattle.std.specs.Prelude.{◌≡◌, ◌+◌, ℕ, cond, suc, min, Bool, List, [], ◌∷◌, length, map, slice_get, Box, Option, None, Some}
use Rattle.std.specs.Option.{option_copied, option_map}
use Rattle.std.specs.Borrow.{Bor}
use Rattle.bk_limits.specs.declared.TheConstants.{MOST_NAMES}
use Rattle.bk_form.specs.Role.{bind}
use Rattle.bk_form.specs.Table.{SetEntry}
use Rattle.bk_dev.specs.Development.{Development}
use Rattle.bk_dev.specs.declared.kind.Home.{Home}
use Rattle.bk_dev.specs.declared.kind.Home.TheVariants.{Constant as ConstantHome}
use Rattle.bk_raw.specs.declared.substitution.RawBranch.{RawBranch}
use Rattle.bk_raw.specs.declared.term.RawName.{RawName}
use Rattle.bk_raw.specs.Trees.RawTree.{RawTree}
use Rattle.bk_raw.specs.Trees.SubTree.{SubTree, sub, sub_skip, Branches, no_branches, else_branch}
use Rattle.bk_raw.specs.Codes.SubView.{branches_of}
use Rattle.bk_raw.specs.Meaning.Names.{Names, Meaning, set_name}
use Rattle.bk_raw.specs.Meaning.ScopeReading.{element_names}
use Rattle.bk_raw.specs.Meaning.Binders.{has_type}
use Rattle.bk_elab_terms.specs.Visible.{visible_names}
use Rattle.bk_statics.specs.Binders.{binder_count}
use Rattle.bk_statics.specs.Components.{WrittenVariable as Written, Component as Clauses, initialisation, is_machine}
use Rattle.bk_statics.specs.Typings.{Typing, Target as Meant, unknown, no_variable, variable_target}
use Rattle.bk_statics.specs.Typings.{as_variable, numbered_old, target_in, type_at}
use Rattle.bk_statics.specs.Ways.{Way as WayMeant, no_way, by_term, by_domain, by_conjuncts, same_as}
use Rattle.bk_statics.specs.Above.{above_of}
use Rattle.bk_statics.specs.Plan.{Declared as DeclaredMeant, Headed as HeadedMeant, Placed as PlacedMeant}
use Rattle.bk_statics.specs.Plan.{Plan as PlanMeant, no_operation, plan, operations_of, input_count, sizes, other_sizes}
use Rattle.bk_scope.specs.declared.above.Above.{Above}
use Rattle.bk_scope.specs.declared.component.Blank.{Blank}
use Rattle.bk_scope.specs.declared.component.Component.{Component}
use Rattle.bk_scope.specs.declared.component.WrittenVariable.{WrittenVariable}
use Rattle.bk_scope.specs.declared.plan.Counts.{Counts}
use Rattle.bk_scope.specs.declared.plan.Declared.{Declared}
use Rattle.bk_scope.specs.declared.plan.Headed.{Headed}
use Rattle.bk_scope.specs.declared.plan.Placed.{Placed}
use Rattle.bk_scope.specs.declared.plan.Plan.{Plan}
use Rattle.bk_scope.specs.declared.sight.Target.{Target}
use Rattle.bk_scope.specs.declared.sight.Target.TheVariants.{Unknown, Constant, Variable}
use Rattle.bk_scope.specs.declared.way.Group.{Group}
use Rattle.bk_scope.specs.declared.way.Such.{Such}
use Rattle.bk_scope.specs.declared.way.Way.{Way}
use Rattle.bk_scope.specs.declared.way.Way.TheVariants.{Nowhere, Term, Domain, Conjuncts, Such as OfSuch, Same}

-- what references point to
abbrev pub refs : {A : Type 0} → List (Bor A) → List A
refs xs = map (λ x. x.now) xs

-- ---- components
-- a variable as it is written
abbrev pub variable_shown : WrittenVariable → Written
variable_shown v = record { name = v.name.now; is_concrete = v.is_concrete }

-- several
abbrev pub variables_shown : List WrittenVariable → List Written
variables_shown vs = map variable_shown vs

-- a component by its clauses
abbrev pub component_shown : Component → Clauses
component_shown c = record {
  at = c.at;
  kind = c.kind;
  name = c.name.now;
  sets = refs c.sets.items;
  constants = refs c.constants.items;
  properties = option_copied c.properties;
  variables = variables_shown c.variables.items;
  invariant = option_copied c.invariant;
  assertions = refs c.assertions.items;
  values = refs c.values.items;
  init = option_copied c.init;
  operations = refs c.operations.items;
  declared = refs c.declared.items;
}

-- what is boxed, where there is something
abbrev pub unboxed : {Z : Type 0} → Option (Box SubTree Z) → Option SubTree
unboxed last = option_map (λ b. b.value) last

-- skip at a byte
abbrev pub skipping : ℕ → SubTree
skipping at = sub at sub_skip

-- it has the operation that stands for one that is missing
abbrev pub no_operation_of : Blank → Type 0
no_operation_of b = b.operation ≡ no_operation

-- and the initialisation of a component that has none, which starts at this byte
abbrev pub is_blank : ℕ → Blank → Type 0
is_blank at b = (b.start ≡ skipping at) × no_operation_of b

-- ---- what stands above
-- the levels above, as contracts see them
abbrev pub above_shown : Above → Development
above_shown a = above_of (option_copied a.development)

-- the s-th set with its elements
abbrev pub set_entry : ℕ → Option SetEntry → Names
set_entry s None = []
set_entry s (Some e) = record { text = e.name; meaning = set_name s } ∷ element_names s 0 e.elements

-- the set with a number among the sets of a table
abbrev pub set_at : ℕ → List SetEntry → Names
set_at s es = set_entry s (slice_get es s)

-- the name of variable n, where its home is that of a constant
abbrev pub constant_at : Home → List ℕ → ℕ → Names
constant_at ConstantHome x n = as_variable x n ∷ []
constant_at _ x n = []

-- ---- names
-- what is written to
abbrev pub target_shown : Target → Meant
target_shown Unknown = unknown
target_shown Constant = no_variable
target_shown (Variable n) = variable_target n

-- texts have the numbers from n on
abbrev pub numbered_texts : ℕ → List (List ℕ) → Names
numbered_texts n [] = []
numbered_texts n (x ∷ xs) = as_variable x n ∷ numbered_texts (suc n) xs

-- whether what a name means is a variable that has a type
abbrev pub is_typed : Typing → Meaning → Bool
is_typed typing m = has_type (type_at typing (target_in m))

-- ---- substitutions
-- what is in a box, if there is one
abbrev pub last_branch : Option SubTree → Branches
last_branch None = no_branches
last_branch (Some s) = else_branch s

-- further branches of IF or SELECT, and what stands after ELSE
abbrev pub branches_shown : List RawBranch → Option SubTree → Branches
branches_shown bs last = branches_of bs (last_branch last)

-- as far as names are counted
abbrev pub capped : ℕ → ℕ
capped n = min n (MOST_NAMES + 1)

-- ---- plans
-- a declared name, as contracts see it
abbrev pub declared_shown : Declared → DeclaredMeant
declared_shown d = record { text = d.text.now; higher = d.higher; is_concrete = d.is_concrete }

-- the header of an operation, as contracts see it
abbrev pub headed_shown : Headed → HeadedMeant
headed_shown h =
    record { operation = h.operation.now; inputs = visible_names h.inputs.items; machine_outputs = visible_names h.machine_outputs.items }

-- an operation with the numbers of its names, as contracts see it
abbrev pub placed_shown : Placed → PlacedMeant
placed_shown p = record {
  headed = record {
    operation = p.operation.now;
    inputs = visible_names p.inputs.items;
    machine_outputs = visible_names p.machine_outputs.items;
  };
  outputs_at = p.outputs_at;
  binders_at = p.binders_at;
}

-- the first numbers below these levels, and a number after all that the component's operations have
pub record IsCounted (n : Counts) (above : Development) (c : Clauses) (own : ℕ) : Type 0 where
  pub constants : n.constants_at ≡ length above.table.variables
  pub variables : n.variables_at ≡ n.constants_at + length c.constants
  pub inputs : n.inputs_at ≡ n.variables_at + own
  pub outputs : n.outputs_at ≡ n.inputs_at + cond (is_machine c.kind) (input_count c.operations) 0
  pub behind : n.far ≡
      n.outputs_at + (binder_count (initialisation c) + (sizes above.heads c.operations + other_sizes above.heads c.operations))

-- the plan without its headers, which only a machine makes
abbrev pub plan_shown : Plan → PlanMeant
plan_shown p = record {
  level = p.level;
  constants_at = p.constants_at;
  variables_at = p.variables_at;
  inputs_at = p.inputs_at;
  outputs_at = p.outputs_at;
  binders_at = p.binders_at;
  globals = visible_names p.globals.items;
  upper = visible_names p.upper.items;
  variables = map declared_shown p.variables.items;
  heads = [];
  headed = map (λ o. o.headed) (map placed_shown p.operations.items);
}

-- it is the component's plan below these levels
pub record IsPlanOf (p : Plan) (dev : Development) (c : Clauses) : Type 0 where
  pub shown : plan_shown p ≡ record (plan dev c) { heads = [] }
  pub operations : map placed_shown p.operations.items ≡ operations_of (plan dev c) c

-- ---- ways
-- x :( P ) for one of its names
abbrev pub such_shown : Such → RawName → WayMeant
such_shown s x = by_conjuncts (bind (numbered_old s.first s.names.now) (visible_names s.around.value.items)) (x ∷ []) 0 s.predicate.now

-- where a name takes its type from, as contracts see it
abbrev pub way_shown : Way → WayMeant
way_shown Nowhere = no_way
way_shown (Term names e) = by_term (visible_names names.value.items) e.now
way_shown (Domain names e) = by_domain (visible_names names.value.items) e.now
way_shown (Conjuncts g i) = by_conjuncts (visible_names g.value.around.items) (refs g.value.names.items) i g.value.predicate.now
way_shown (OfSuch s x) = such_shown s.value x.now
way_shown (Same n) = same_as n

-- the way of a group's member
abbrev pub group_way : Group → ℕ → WayMeant
group_way g i = by_conjuncts (visible_names g.around.items) (refs g.names.items) i g.predicate.now

-- the same, if there is a group
abbrev pub member_shown : Option Group → ℕ → WayMeant
member_shown None i = no_way
member_shown (Some g) i = group_way g i

-- the way of a variable, before which so many new ones stand
abbrev pub variable_way_shown : Option Group → ℕ → Option ℕ → WayMeant
variable_way_shown g i (Some m) = same_as m
variable_way_shown g i None = member_shown g i

-- it is the group of these names under a predicate, if there is one
pub record IsGroup (g : Group) (around_it : Names) (p : RawTree) (xs : List RawName) : Type 0 where
  pub around : visible_names g.around.items ≡ around_it
  pub names : refs g.names.items ≡ xs
  pub predicate : g.predicate.now ≡ p

-- names with the predicate that may type them, or neither
abbrev pub IsGroupOf : Option Group → Names → Option RawTree → List RawName → Type 0
IsGroupOf None names None xs = Unit {0}
IsGroupOf (Some g) names (Some p) xs = IsGroup g names p xs
IsGroupOf _ names p xs = ⊥
