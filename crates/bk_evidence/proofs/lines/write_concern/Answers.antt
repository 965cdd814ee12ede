use Rattle.std.proofs.Common.{◌++◌, ◌∙◌, ap}
use Rattle.bk_evidence.specs.declared.sums.Sums.{Sums}
use Rattle.bk_evidence.specs.Lines.{concern_line}
use Rattle.bk_evidence.proofs.lines.write_concern.Goals as goal

pub returns : goal.returns
returns c = c.in_ok-write_some.ensures ∙ ap (λ (s : Sums). c.args.text.now.items ++ concern_line c.args.concern s) c.sums_with-sums.ensures
