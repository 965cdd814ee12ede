use Rattle.std.proofs.Common.{◌≡◌, Some, subst, IfOk}
use Rattle.serde_json.specs.Data.{Data}
use Rattle.serde_json.specs.Read.{read}
use Rattle.serde_json.specs.View.{view}
use Rattle.bk_evidence.proofs.Depths.{list_nests}
use Rattle.bk_evidence.proofs.json.list_json.Goals as goal

pub value_text-requires : goal.value_text-requires
value_text-requires c = list_nests c.args.is_open_only c.args.items.now c.args.strays.now (view c.in_ok-value.value) c.in_ok-value.ensures

pub returns : goal.returns
returns c = subst (λ (d : Data). IfOk c.value_text.result (λ text. read text.items ≡ Some d)) c.in_ok-value.ensures c.value_text.ensures
