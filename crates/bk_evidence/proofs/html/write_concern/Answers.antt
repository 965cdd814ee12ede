use Rattle.std.proofs.Common.{◌++◌, ◌∙◌, ap}
use Rattle.bk_evidence.specs.declared.sums.Sums.{Sums}
use Rattle.bk_evidence.specs.Html.{concern_part}
use Rattle.bk_evidence.proofs.html.write_concern.Goals as goal

pub returns : goal.returns
returns c = c.in_ok-write_some.ensures ∙ ap (λ (s : Sums). c.args.page.now.items ++ concern_part c.args.concern s) c.sums_with-sums.ensures
