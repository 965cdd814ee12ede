-- The faults of a component, by what the program keeps of it and of its plan, where these types are told.
use Rattle.std.specs.Prelude.{List}
use Rattle.bk_raw.specs.Errors.Faults.{Fault}
use Rattle.bk_elab_terms.specs.Visible.{typing_of}
use Rattle.bk_statics.specs.ClauseFaults.{clause_faults}
use Rattle.bk_statics.specs.OperationFaults.{operation_faults}
use Rattle.bk_statics.specs.ValueFaults.{value_faults_of}
use Rattle.bk_statics.specs.Plan.{plan as plan_of}
use Rattle.bk_scope.specs.declared.above.Above.{Above}
use Rattle.bk_scope.specs.declared.component.Component.{Component}
use Rattle.bk_scope.specs.declared.plan.Plan.{Plan}
use Rattle.bk_scope.specs.declared.way.Typing.{Typing}
use Rattle.bk_scope.specs.Shown.{above_shown, component_shown, plan_shown}

-- those of its clauses
abbrev pub clause_faults_by : Typing → Component → Plan → List Fault
clause_faults_by t c p = clause_faults t.max (typing_of t.types.now) (plan_shown p) (component_shown c)

-- those of its initialisation and of its operations' headers
abbrev pub operation_faults_by : Above → Component → List Fault
operation_faults_by a c = operation_faults (above_shown a) (component_shown c) (plan_of (above_shown a) (component_shown c))

-- those of its values
abbrev pub value_faults_by : Typing → Above → Component → Plan → List Fault
value_faults_by t a c p = value_faults_of t.max (above_shown a) (typing_of t.types.now) (plan_shown p) (component_shown c)
