use Rattle.std.proofs.Common.{◌∙◌, refl, sym, ap, subst, ℕ, List}
use Rattle.bk_form.specs.Formula.{Formula}
use Rattle.bk_dev.specs.Development.{Level}
use Rattle.bk_raw.specs.Errors.Blame.{blame}
use Rattle.bk_elab_terms.specs.Shown.{told}
use Rattle.bk_elab_terms.specs.Visible.{typing_of}
use Rattle.bk_statics.specs.Executable.{executable_in}
use Rattle.bk_statics.specs.LevelOf.{level_made, types_at}
use Rattle.bk_statics.specs.Plan.{Plan, plan, operations_of}
use Rattle.bk_statics.specs.Typings.{Typing}
use Rattle.bk_statics.specs.Verdict.{level_below}
use Rattle.bk_elab.specs.Answered.{IsMadeBy}
use Rattle.bk_check_b0.specs.Arrays.{IsDeclaredBy}
use Rattle.bk_check_b0.specs.Executed.{executing}
use Rattle.bk_scope.specs.Shown.{above_shown, component_shown, plan_shown}
use Rattle.bk_elab.proofs.Assembling.{executed-is, declared-so}
use Rattle.bk_elab.proofs.levels.executed_fault.Goals as goal

pub array_domains-requires : goal.array_domains-requires
array_domains-requires c =
    (level_made c.args.typing.max (typing_of c.args.typing.types.now) (plan_shown c.args.plan.now) (component_shown c.args.component.now), c.deref.ensures.value ∙ c.requires.made.own)

pub executable_fault-requires-clause-operations : goal.executable_fault-requires-clause-operations
executable_fault-requires-clause-operations c =
    c.requires.planned.operations ∙ sym (ap (λ (q : Plan). operations_of q (component_shown c.args.component.now)) c.requires.planned.shown)

pub returns : goal.returns
returns c =
    let a = c.args.added.now in
    let dev = above_shown c.args.above in
    let k = component_shown c.args.component.now in
    let max = c.args.typing.max in
    let p = plan_shown c.args.plan.now in
    let made : IsMadeBy a max (types_at max dev k (plan dev k)) p k = subst (λ (t : Typing). IsMadeBy a max t p k) c.requires.types c.requires.made in
    let so : IsDeclaredBy (level_below max dev k) c.args.typing dev a.own.items a.values.items = declared-so a max dev k p c.requires.planned.shown made c.args.typing c.requires.types refl in
    let there : IsDeclaredBy (level_below max dev k) c.args.typing dev c.deref.result.now c.deref-2.result.now =
    subst (λ (own : List Level). IsDeclaredBy (level_below max dev k) c.args.typing dev own c.deref-2.result.now) (sym c.deref.ensures.value)
    (subst (λ (vs : List (ℕ × Formula)). IsDeclaredBy (level_below max dev k) c.args.typing dev a.own.items vs) (sym c.deref-2.ensures.value) so) in
    executed-is a max dev k p c.requires.planned.shown made c.in_ok-arrays.arrays.items (typing_of c.args.typing.types.now) (told c.in_ok-fault.fault) (sym c.is_implementing.ensures ∙ c.if-not-is_implementing.false) (λ x. c.in_ok-arrays.ensures (level_below max dev k) there x) c.requires.types
    (c.in_ok-fault.ensures ∙ ap (λ (ds : List (ℕ × Formula)). blame (executable_in (executing c.args.typing ds) p k)) c.deref-3.ensures.value)
