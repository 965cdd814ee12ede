-- What is accepted is a development.
use Rattle.std.proofs.Common.{◌≡◌, List, [], ◌++◌, refl, sym, ap, subst, Bool, true, false}
use Rattle.std.specs.Prelude.{Option, None, Some, ℤ}
use Rattle.bk_form.specs.Each.{Each}
use Rattle.bk_dev.specs.Development.{Development, is_complete, is_implementing, int_max as machine_max}
use Rattle.bk_dev.specs.Facts.{IsValue, HasItsValues, IsDevelopment}
use Rattle.bk_raw.specs.declared.component.ComponentKind.{ComponentKind}
use Rattle.bk_raw.specs.declared.component.ComponentKind.TheVariants.{Machine, Refinement, Implementation}
use Rattle.bk_raw.specs.Trees.ComponentTree.{RawComponent}
use Rattle.bk_raw.proofs.RulesFit.{none-left, none-right}
use Rattle.bk_statics.specs.Components.{component_of, kind_as, is_machine}
use Rattle.bk_statics.specs.Plan.{plan, operations_of}
use Rattle.bk_statics.specs.LevelOf.{types_at, made}
use Rattle.bk_statics.specs.ClauseFaults.{clause_faults}
use Rattle.bk_statics.specs.NameFaults.{name_faults}
use Rattle.bk_statics.specs.OperationFaults.{operation_faults}
use Rattle.bk_statics.specs.StaticFaults.{init_faults, all_body_faults, static_faults}
use Rattle.bk_statics.specs.ValueFaults.{value_faults_of}
use Rattle.bk_statics.specs.Executable.{executable_faults}
use Rattle.bk_statics.specs.Verdict.{accepted, verdict_of}
use Rattle.bk_statics.specs.VerdictLaws.{MayStandAbove, IsRangeBelow, HasRoom, AcceptedIsDevelopment}
use Rattle.bk_statics.proofs.Verdicts.{answer-right}
use Rattle.bk_statics.proofs.MachineStands.{machine-accepted}
use Rattle.bk_statics.proofs.LowerStands.{ready-above, lower-development, refinement-accepted}
use Rattle.bk_statics.proofs.ValuesStand.{values-stand}

-- an implementation below a development
pub implementation-accepted : (above : Development) (written : RawComponent) (dev : Development) → IsDevelopment above → is_complete above ≡ false → written.kind ≡ Implementation → verdict_of (machine_max above) (Some above) written ≡ accepted dev → HasRoom dev → IsDevelopment dev
implementation-accepted above written dev d going kind e room =
    let comp = component_of written in
    let most = machine_max above in
    let right = answer-right.right most above comp dev e in
    let p = plan above comp in
    let typing = types_at most above comp p in
    let below : is_machine comp.kind ≡ false = ap (λ k. is_machine (kind_as k)) kind in
    let implements : is_implementing comp.kind ≡ true = ap (λ k. is_implementing (kind_as k)) kind in
    let none = none-left (static_faults most above comp) (executable_faults most above comp) right.1 in
    let clauses = clause_faults most typing p comp in
    let operations = operation_faults above comp p in
    let begun = init_faults most above comp typing p in
    let bodies = all_body_faults most above comp typing p (operations_of p comp) in
    let values = value_faults_of most above typing p comp in
    let values-none = none-right bodies values (none-right begun (bodies ++ values) (none-right operations (begun ++ (bodies ++ values)) (none-right clauses (operations ++ (begun ++ (bodies ++ values))) (none-right (name_faults above comp) (clauses ++ (operations ++ (begun ++ (bodies ++ values)))) none)))) in
    let valued = values-stand above comp (ready-above above d.lawful) implements values-none in
    subst IsDevelopment (sym right.2) (lower-development most above comp refl d going below none (subst HasRoom right.2 room) valued.0 (subst (HasItsValues (made most above comp p)) (sym implements) valued.1))

by-kind : (kind : ComponentKind) (int_max : ℤ) (above : Option Development) (written : RawComponent) (dev : Development) → written.kind ≡ kind → MayStandAbove kind above → IsRangeBelow int_max above → verdict_of int_max above written ≡ accepted dev → HasRoom dev → IsDevelopment dev
by-kind Machine int_max None written dev kind m range e room = machine-accepted int_max written dev range kind e room
by-kind Machine int_max (Some above) written dev kind m range e room = absurd m
by-kind Refinement int_max None written dev kind m range e room = absurd m
by-kind Refinement int_max (Some above) written dev kind m range e room = refinement-accepted above written dev m kind (subst (λ n. verdict_of n (Some above) written ≡ accepted dev) range e) room
by-kind Implementation int_max None written dev kind m range e room = absurd m
by-kind Implementation int_max (Some above) written dev kind m range e room =
    implementation-accepted above written dev m.0 m.1 kind (subst (λ n. verdict_of n (Some above) written ≡ accepted dev) range e) room

pub always-development : AcceptedIsDevelopment
always-development int_max above written dev m range e room = by-kind written.kind int_max above written dev refl m range e room
