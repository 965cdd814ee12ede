use Rattle.std.proofs.Common.{◌≡◌, ◌∙◌, sym, ap, subst, List, map, ℤ, w64, to_z, of_z, to_z-of_z}
use Rattle.std.specs.Prelude.{Option}
use Rattle.bk_val.specs.ValueType.{ValueType}
use Rattle.bk_raw.specs.Errors.Blame.{blame}
use Rattle.bk_elab_terms.specs.Shown.{told}
use Rattle.bk_elab_terms.specs.Visible.{typing_of}
use Rattle.bk_statics.specs.Executable.{executable_faults}
use Rattle.bk_statics.specs.LevelOf.{types_at}
use Rattle.bk_statics.specs.Plan.{Plan, plan, operations_of}
use Rattle.bk_statics.specs.StaticFaults.{static_faults, planned_faults}
use Rattle.bk_statics.specs.Typings.{Typing}
use Rattle.bk_statics.specs.Components.{is_machine}
use Rattle.bk_statics.specs.Verdict.{all_faults, level_below}
use Rattle.bk_elab.specs.Answered.{IsAddedBy, IsMadeBy}
use Rattle.bk_scope.specs.Shown.{above_shown, component_shown, plan_shown, way_shown}
use Rattle.bk_scope.specs.declared.way.Way.{Way}
use Rattle.bk_elab.proofs.Assembling.{added-is, types-are}
use Rattle.bk_scope.proofs.FaultSteps.{told-both}
use Rattle.bk_elab.proofs.levels.part_given.Goals as goal

pub added_by-requires-clause-operations : goal.added_by-requires-clause-operations
added_by-requires-clause-operations c =
    c.in_ok-plan.ensures.operations ∙ sym (ap (λ (q : Plan). operations_of q (component_shown c.args.given.component.now)) c.in_ok-plan.ensures.shown)

pub executed_fault-requires-clause-types : goal.executed_fault-requires-clause-types
executed_fault-requires-clause-types c =
    let m = to_z w64 (of_z w64 c.args.max) in
    let dev = above_shown c.args.given.above in
    let k = component_shown c.args.given.component.now in
    ap (λ (ts : List (Option ValueType)). typing_of ts) c.deref-2.ensures.value
    ∙ types-are m dev k c.in_ok-types.types.items c.in_ok-known.known.items (map way_shown c.deref.result.now) c.in_ok-known.ensures
    (ap (λ (ws : List Way). map way_shown ws) c.deref.ensures.value ∙ c.in_ok-ways.ensures dev c.in_ok-plan.ensures) c.in_ok-types.ensures

pub returns : goal.returns
returns c =
    let m = to_z w64 (of_z w64 c.args.max) in
    let dev = above_shown c.args.given.above in
    let k = component_shown c.args.given.component.now in
    let p = plan_shown c.in_ok-plan.plan in
    let back : m ≡ c.args.max = to_z-of_z c.ranges.max in
    let types : typing_of c.deref-2.result.now ≡ types_at m dev k (plan dev k) =
    ap (λ (ts : List (Option ValueType)). typing_of ts) c.deref-2.ensures.value
    ∙ types-are m dev k c.in_ok-types.types.items c.in_ok-known.known.items (map way_shown c.deref.result.now) c.in_ok-known.ensures
    (ap (λ (ws : List Way). map way_shown ws) c.deref.ensures.value ∙ c.in_ok-ways.ensures dev c.in_ok-plan.ensures) c.in_ok-types.ensures in
    record {
      added =
          subst (λ (n : ℤ). IsAddedBy n c.in_ok-added.added dev (is_machine k.kind) (level_below n dev k)) back
          (added-is c.in_ok-added.added m dev k p c.in_ok-plan.ensures.shown (subst (λ (t : Typing). IsMadeBy c.in_ok-added.added m t p k) types c.in_ok-added.ensures) c.requires.alone);
      fault =
          told-both (static_faults m dev k) (executable_faults m dev k) (told c.in_ok-fault.fault) (told c.in_ok-executed.executed) (told c.earlier.result)
          (c.in_ok-fault.ensures ∙ ap (λ (t : Typing). blame (planned_faults m dev k (plan dev k) t)) types) c.in_ok-executed.ensures c.earlier.ensures
          ∙ ap (λ (n : ℤ). blame (all_faults n dev k)) back;
    }
