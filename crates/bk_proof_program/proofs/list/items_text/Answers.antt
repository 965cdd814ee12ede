use Rattle.std.proofs.Common.{Bool, sym, subst}
use Rattle.std.specs.Prelude.{IfOk}
use Rattle.bk_proof_program.specs.Told.{WritesList}
use Rattle.bk_proof_program.proofs.list.items_text.Goals as goal

pub returns-then-as_json : goal.returns-then-as_json
returns-then-as_json c =
    subst (λ (b : Bool). IfOk c.json_line.result (λ text. WritesList b c.args.is_open_only c.args.all.now c.args.strays.now text.items)) (sym c.if-as_json.true) c.json_line.ensures

pub returns-else-as_json : goal.returns-else-as_json
returns-else-as_json c =
    subst (λ (b : Bool). IfOk c.list_text.result (λ text. WritesList b c.args.is_open_only c.args.all.now c.args.strays.now text.items)) (sym c.if-as_json.false) c.list_text.ensures
