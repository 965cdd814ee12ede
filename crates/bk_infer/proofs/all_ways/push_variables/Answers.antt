use Rattle.std.proofs.Common.{◌≡◌, ◌++◌, ap, ◌∙◌, ◌≤◌, subst, List, length, map, drop}
use Rattle.std.specs.Option.{option_copied, option_map}
use Rattle.std.specs.Borrow.{Bor}
use Rattle.bk_raw.specs.declared.term.RawName.{RawName}
use Rattle.bk_raw.specs.Meaning.Names.{Names}
use Rattle.bk_elab_terms.specs.declared.sight.Visible.{Visible}
use Rattle.bk_elab_terms.specs.Visible.{visible_names}
use Rattle.bk_statics.specs.LevelOf.{variable_ways}
use Rattle.bk_statics.specs.Plan.{fresh}
use Rattle.bk_statics.specs.Ways.{Way}
use Rattle.bk_scope.specs.declared.component.WrittenVariable.{WrittenVariable}
use Rattle.bk_scope.specs.declared.plan.Declared.{Declared}
use Rattle.bk_scope.specs.Shown.{refs, declared_shown, way_shown, variables_shown}
use Rattle.bk_infer.proofs.Members.{variable_members, variables-end, variables-by}
use Rattle.bk_infer.proofs.all_ways.push_variables.Goals as goal

pub returns : goal.returns
returns c =
    let plan = c.args.plan.now in
    let group = option_map (λ g. g.value) c.in_ok-group.group in
    let ds = map declared_shown plan.variables.items in
    let p = option_copied c.args.component.now.invariant in
    let names : visible_names c.deref-3.result.now ≡ visible_names plan.upper.items ++ visible_names plan.globals.items = ap (λ (vs : List Visible). visible_names vs) c.deref-3.ensures.value ∙ c.in_ok-around.ensures in
    let new : refs c.deref-4.result.now ≡ fresh (visible_names plan.upper.items) (variables_shown c.args.component.now.variables.items) =
    ap (λ (xs : List (Bor RawName)). refs xs) c.deref-4.ensures.value ∙ c.in_ok-new.ensures
    ∙ ap (λ (vs : List Visible). fresh (visible_names vs) (variables_shown c.deref-2.result.now)) c.deref.ensures.value
    ∙ ap (λ (vs : List WrittenVariable). fresh (visible_names plan.upper.items) (variables_shown vs)) c.deref-2.ensures.value in
    let invariant : map way_shown c.loop-variable.found.items ++ variable_members group c.loop-variable.place (map declared_shown (drop c.loop-variable.variable-index plan.variables.items)) ≡ map way_shown c.args.found.now.items ++ variable_members group 0 ds =
    subst (λ g. map way_shown c.loop-variable.found.items ++ variable_members (option_map (λ x. x.value) g) c.loop-variable.place (map declared_shown (drop c.loop-variable.variable-index plan.variables.items)) ≡ map way_shown c.args.found.now.items ++ variable_members (option_map (λ x. x.value) g) 0 ds) c.loop-variable.invariant.same c.loop-variable.invariant.ways in
    variables-end group plan.variables.items c.loop-variable.place c.loop-variable.variable-index (map way_shown c.loop-variable.found.items) (map way_shown c.args.found.now.items ++ variable_members group 0 ds) (subst (λ (list : List Declared). length list ≤ c.loop-variable.variable-index) c.deref-variable-items.ensures.value c.loop-variable-test.false) invariant
    ∙ ap (λ (ws : List Way). map way_shown c.args.found.now.items ++ ws) (variables-by group (visible_names c.deref-3.result.now) p (refs c.deref-4.result.now) c.in_ok-group.ensures 0 ds
    ∙ ap (λ (ns : Names). variable_ways ns p (refs c.deref-4.result.now) 0 ds) names
    ∙ ap (λ (xs : List RawName). variable_ways (visible_names plan.upper.items ++ visible_names plan.globals.items) p xs 0 ds) new)
