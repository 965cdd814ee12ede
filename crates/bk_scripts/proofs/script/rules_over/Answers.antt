use Rattle.std.proofs.Common.{◌∙◌, ap, subst}
use Rattle.std.specs.List.{AllZip}
use Rattle.bk_scripts.specs.Grounding.{StandsFor}
use Rattle.bk_scripts.proofs.Sighted.{rules_whole}
use Rattle.bk_scripts.proofs.script.rules_over.Goals as goal

pub returns : goal.returns
returns c =
    let scope = c.in_ok-scope.scope in
    let wide = c.in_ok-scope.wide in
    let rules = c.in_ok-rules.rules.items in
    rules_whole c.args.table.now c.args.dev.now c.args.script.now scope wide rules
    c.in_ok-scope.ensures
    (subst (λ rs. AllZip (StandsFor (record { table = wide; scope = scope })) rs rules) (c.deref.ensures.value ∙ ap (λ z. z.rules) c.script.view_is) c.in_ok-rules.ensures)
