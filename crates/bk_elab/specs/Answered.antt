-- What the program answers of a component, and what the component adds to a development.
use Rattle.std.specs.Prelude.{◌≡◌, ℕ, ℤ, Bool, cond, List, [], ◌∷◌, ◌++◌, length, map, Option, None, Some}
use Rattle.bk_val.specs.ValueType.{ValueType}
use Rattle.bk_form.specs.Table.{Table, SetEntry, VariableEntry, with_set, with_variable}
use Rattle.bk_raw.specs.Errors.Faults.{Fault}
use Rattle.bk_gsl.specs.State.{among}
use Rattle.bk_dev.specs.Development.{Development}
use Rattle.bk_dev.specs.Facts.{home_of, is_variable_of, writes_own}
use Rattle.bk_elab_terms.specs.declared.error.ElabFault.{ElabFault}
use Rattle.bk_elab_terms.specs.declared.error.ElabFault.TheVariants.{Fault as FaultAt, Limit, Memory}
use Rattle.bk_elab_terms.specs.Visible.{visible_names}
use Rattle.bk_statics.specs.Components.{Component, is_machine}
use Rattle.bk_statics.specs.Typings.{Typing, interval}
use Rattle.bk_statics.specs.Plan.{Placed, Plan, entries_of, machine_heads, body_scope}
use Rattle.bk_statics.specs.LevelOf.{entries_from, new_texts, new_homes, level_made, values_made}
use Rattle.bk_statics.specs.ClauseFaults.{input_faults}
use Rattle.bk_statics.specs.SubFaults.{declared_faults, sub_faults}
use Rattle.bk_statics.specs.StaticFaults.{outputs_of}
use Rattle.bk_statics.specs.Verdict.{Verdict, AnswersFault, past_limit}
use Rattle.bk_scope.specs.Shown.{plan_shown}
use Rattle.bk_elab.specs.declared.levels.Added.{Added}
use Rattle.bk_scope.specs.declared.plan.Plan.{Plan as PlanKept}
use Rattle.bk_scope.specs.declared.way.Typing.{Typing as TypingKept}

-- ---- the answer
-- what is told where the answer is no development: the fault or the limit; want of memory tells nothing
abbrev pub SaysOfComponent : Verdict → ElabFault → Type 0
SaysOfComponent verdict (FaultAt number place) = AnswersFault verdict number place
SaysOfComponent verdict (Limit n) = verdict ≡ past_limit n
SaysOfComponent verdict Memory = Unit {0}

-- ---- what may be written
-- the variables that are at home at the plan's level are those of the plan
abbrev pub WritesOwn : PlanKept → Development → Type 0
WritesOwn p dev = (n : ℕ) → is_variable_of p.level (home_of dev n) ≡ among (interval p.variables_at (length p.variables.items)) n

-- the faults of a body, with its inputs and outputs
abbrev pub body_judged : TypingKept → Typing → PlanKept → Development → Placed → List Fault
body_judged t typing p dev o =
    input_faults typing o.headed.inputs o.headed.operation.inputs
    ++ (declared_faults typing o.outputs_at o.headed.operation.outputs
    ++ sub_faults t.max typing (visible_names p.upper.items) (body_scope (plan_shown p) o)
    (writes_own dev p.level (outputs_of o)) o.binders_at o.headed.operation.body)

-- those of all bodies
abbrev pub bodies_judged : TypingKept → Typing → PlanKept → Development → List Placed → List Fault
bodies_judged t typing p dev [] = []
bodies_judged t typing p dev (o ∷ os) = body_judged t typing p dev o ++ bodies_judged t typing p dev os

-- ---- what is added
-- variables with their types, as entries
abbrev pub variables_added : List (List ℕ × ValueType) → List VariableEntry
variables_added vs = map (λ v. record { text = v.0; of_type = v.1 }) vs

-- sets go into a table
abbrev pub with_sets : Table → List SetEntry → Table
with_sets t [] = t
with_sets t (s ∷ ss) = with_sets (with_set t s) ss

-- variables do
abbrev pub with_variables : Table → List VariableEntry → Table
with_variables t [] = t
with_variables t (v ∷ vs) = with_variables (with_variable t v) vs

-- it is what the component makes
pub record IsMadeBy (a : Added) (int_max : ℤ) (typing : Typing) (p : Plan) (c : Component) : Type 0 where
  pub sets : a.sets.items ≡ entries_of c.sets
  pub variables : variables_added a.variables.items ≡ entries_from typing p.constants_at (new_texts p c)
  pub homes : a.homes.items ≡ new_homes p c
  pub heads : a.heads.items ≡ cond (is_machine c.kind) (machine_heads p.inputs_at c.operations) []
  pub own : a.own.items ≡ level_made int_max typing p c ∷ []
  pub values : a.values.items ≡ values_made int_max typing p.globals c.values

-- the development of what a machine adds, with this MAXINT
abbrev pub development_of : ℤ → Added → Development
development_of int_max a = record {
  max = int_max;
  table = record { sets = a.sets.items; variables = variables_added a.variables.items };
  homes = a.homes.items;
  sets = a.sets.items;
  heads = a.heads.items;
  levels = a.own.items;
  values = a.values.items;
  extents = (length a.sets.items, length (variables_added a.variables.items)) ∷ [];
}

-- the development above with what another component adds
abbrev pub development_below : ℤ → Development → Added → Development
development_below int_max dev a = record {
  max = int_max;
  table = record { sets = dev.table.sets ++ a.sets.items; variables = dev.table.variables ++ variables_added a.variables.items };
  homes = dev.homes ++ a.homes.items;
  sets = dev.table.sets ++ a.sets.items;
  heads = dev.heads;
  levels = dev.levels ++ a.own.items;
  values = a.values.items;
  extents =
      dev.extents ++ (length (dev.table.sets ++ a.sets.items), length (dev.table.variables ++ variables_added a.variables.items)) ∷ [];
}

-- the levels above, if there are some, with what a component adds
abbrev pub with_level : ℤ → Option Development → Added → Development
with_level int_max None a = development_of int_max a
with_level int_max (Some dev) a = development_below int_max dev a

-- with what is added it is this development: a machine makes its headers, and all others take those above
abbrev pub IsAddedBy : ℤ → Added → Development → Bool → Development → Type 0
IsAddedBy int_max a dev machine new = cond machine (development_of int_max a) (development_below int_max dev a) ≡ new
