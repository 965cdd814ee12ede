use Rattle.std.proofs.Common.{◌∙◌, rules, tests}
use Rattle.std.proofs.lemmas.Iterator.{YieldsList-from_slice}
use Rattle.std.proofs.lemmas.Iterator.Search.{any_from_yields_List}
use Rattle.std.specs.Str.{bytes_eq}
use Rattle.bk_dev.specs.Development.{Head}
use Rattle.bk_scope.proofs.Planned.{headed_any}
use Rattle.bk_scope.proofs.plan.is_headed.Goals as goal

pub returns : goal.returns
returns c =
    any_from_yields_List (λ (h : Head). bytes_eq h.name c.args.text.now) _ _ _ c.any.ensures.ran (YieldsList-from_slice c.args.heads.now cc) (λ x b q k. search (rules, tests))
    ∙ headed_any c.args.heads.now c.args.text.now
