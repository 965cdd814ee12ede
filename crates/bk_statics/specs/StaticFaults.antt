-- All faults of a component but those of B0.
-- Source: B Language Reference Manual; the places are this project's.
use Rattle.std.specs.Prelude.{ℕ, ℤ, Bool, List, [], ◌∷◌, ◌++◌, length}
use Rattle.bk_raw.specs.Errors.Faults.{Fault}
use Rattle.bk_dev.specs.Development.{Development}
use Rattle.bk_dev.specs.Facts.{writes_own}
use Rattle.bk_statics.specs.Components.{Component, initialisation}
use Rattle.bk_statics.specs.Typings.{Typing, interval}
use Rattle.bk_statics.specs.SubFaults.{declared_faults, sub_faults}
use Rattle.bk_statics.specs.Plan.{Placed, Plan, plan, operations_of, scope, body_scope}
use Rattle.bk_statics.specs.LevelOf.{types_at, made}
use Rattle.bk_statics.specs.NameFaults.{name_faults}
use Rattle.bk_statics.specs.ClauseFaults.{clause_faults, input_faults}
use Rattle.bk_statics.specs.OperationFaults.{operation_faults}
use Rattle.bk_statics.specs.ValueFaults.{value_faults_of}

-- whether the variable may be written: the level's variables, and these outputs
abbrev pub writes : ℤ → Development → Component → Plan → List ℕ → ℕ → Bool
writes int_max dev c p outputs n = writes_own (made int_max dev c p) p.level outputs n

-- the numbers of an operation's outputs
abbrev pub outputs_of : Placed → List ℕ
outputs_of o = interval o.outputs_at (length o.headed.operation.outputs)

-- 6 to 9 and 12 of the initialisation
abbrev pub init_faults : ℤ → Development → Component → Typing → Plan → List Fault
init_faults int_max dev c typing p = sub_faults int_max typing p.upper (scope p) (writes int_max dev c p []) p.binders_at (initialisation c)

-- of a body, with its inputs and outputs
abbrev pub body_faults : ℤ → Development → Component → Typing → Plan → Placed → List Fault
body_faults int_max dev c typing p o =
    input_faults typing o.headed.inputs o.headed.operation.inputs
    ++ (declared_faults typing o.outputs_at o.headed.operation.outputs
    ++ sub_faults int_max typing p.upper (body_scope p o) (writes int_max dev c p (outputs_of o)) o.binders_at o.headed.operation.body)

-- of all bodies
abbrev pub all_body_faults : ℤ → Development → Component → Typing → Plan → List Placed → List Fault
all_body_faults int_max dev c typing p [] = []
all_body_faults int_max dev c typing p (o ∷ os) = body_faults int_max dev c typing p o ++ all_body_faults int_max dev c typing p os

-- those of a component with this plan and these types
abbrev pub planned_faults : ℤ → Development → Component → Plan → Typing → List Fault
planned_faults int_max dev c p typing =
    name_faults dev c
    ++ (clause_faults int_max typing p c
    ++ (operation_faults dev c p
    ++ (init_faults int_max dev c typing p
    ++ (all_body_faults int_max dev c typing p (operations_of p c)
    ++ value_faults_of int_max dev typing p c))))

-- those of a component below these levels
abbrev pub static_faults : ℤ → Development → Component → List Fault
static_faults int_max dev c = planned_faults int_max dev c (plan dev c) (types_at int_max dev c (plan dev c))
