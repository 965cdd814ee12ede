use Rattle.std.proofs.Common.{◌≡◌, Some, subst, IfOk}
use Rattle.serde_json.specs.Data.{Data}
use Rattle.serde_json.specs.Read.{read}
use Rattle.serde_json.specs.View.{view}
use Rattle.bk_evidence.proofs.Depths.{report_nests}
use Rattle.bk_evidence.proofs.json.json_text.Goals as goal

pub value_text-requires : goal.value_text-requires
value_text-requires c = report_nests c.args.report.now (view c.in_ok-value.value) c.in_ok-value.ensures

pub returns : goal.returns
returns c = subst (λ (d : Data). IfOk c.value_text.result (λ text. read text.items ≡ Some d)) c.in_ok-value.ensures c.value_text.ensures
