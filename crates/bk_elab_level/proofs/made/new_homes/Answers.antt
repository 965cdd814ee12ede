use Rattle.std.proofs.Common.{◌≡◌, ◌∙◌, ap, List, [], ◌++◌, arith, cond, append_assoc, map}
use Rattle.std.specs.Borrow.{Bor}
use Rattle.std.proofs.lemmas.List.{length-map}
use Rattle.bk_dev.specs.declared.kind.Home.{Home}
use Rattle.bk_dev.specs.declared.kind.Home.TheVariants.{Constant, Input}
use Rattle.bk_raw.specs.declared.term.RawName.{RawName}
use Rattle.bk_statics.specs.Components.{is_machine}
use Rattle.bk_statics.specs.LevelOf.{homes_as, variable_homes, input_texts}
use Rattle.bk_scope.specs.Shown.{component_shown, declared_shown, plan_shown}
use Rattle.bk_scope.proofs.Making.{constants-home, rest-home}
use Rattle.bk_elab_level.proofs.made.new_homes.Goals as goal

pub returns : goal.returns
returns c =
    let k = component_shown c.args.component.now in
    let p = plan_shown c.args.plan.now in
    let constants : c.push_homes.new.found.items ≡ homes_as Constant k.constants =
    constants-home c.new-found.result.items c.push_homes.new.found.items k.constants c.len.result (omega (arith, c.len.ensures, c.args.component.now.constants.ok.0, length-map c.args.component.now.constants.items (λ (x : Bor RawName). x.now))) c.new-found.ensures.items c.in_ok-push_homes.ensures in
    let inputs : List Home = cond (is_machine k.kind) (homes_as Input (input_texts k.operations)) [] in
    let before : c.push_input_homes.new.found.items ≡ homes_as Constant k.constants ++ (variable_homes p.level p.variables ++ inputs) =
    c.in_ok-push_input_homes.ensures
    ∙ (ap (λ (hs : List Home). hs ++ inputs) (c.in_ok-push_variable_homes.ensures ∙ (λ i. constants i ++ variable_homes p.level (map declared_shown (c.deref.ensures.value i))))
    ∙ append_assoc (homes_as Constant k.constants) (variable_homes p.level p.variables) inputs) in
    rest-home p k c.push_input_homes.new.found.items c.push_homes-2.new.found.items c.args.count c.len-2.result c.saturating_sub-others.result
    c.requires before (omega (arith, c.len-2.ensures, c.push_input_homes.new.found.ok.0)) c.saturating_sub-others.ensures c.in_ok-push_homes-2.ensures
