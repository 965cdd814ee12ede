use Rattle.std.proofs.Common.{◌∙◌, take, rules, tests}
use Rattle.std.proofs.lemmas.Iterator.{YieldsList-from_slice}
use Rattle.std.proofs.lemmas.Iterator.Search.{any_from_yields_List}
use Rattle.std.specs.Str.{bytes_eq}
use Rattle.bk_scope.specs.declared.plan.Declared.{Declared}
use Rattle.bk_scope.proofs.Planned.{carried_any}
use Rattle.bk_scope.proofs.plan.is_carried.Goals as goal

pub returns : goal.returns
returns c =
    any_from_yields_List (λ (d : Declared). bytes_eq d.text.now c.args.text.now) _ _ _ c.any.ensures.ran (YieldsList-from_slice (take c.args.count c.args.variables.now) cc) (λ x b q k. search (rules, tests))
    ∙ carried_any (take c.args.count c.args.variables.now) c.args.text.now
