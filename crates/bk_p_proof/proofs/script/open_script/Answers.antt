use Rattle.bk_raw.specs.Grammar.Reading.{start}
use Rattle.bk_p_expr.proofs.Choices.{if_some}
use Rattle.bk_p_proof.proofs.ScriptRead.{script_found, script_kept}
use Rattle.bk_p_proof.proofs.script.open_script.Goals as goal

pub returns-clause-found : goal.returns-clause-found
returns-clause-found c =
    let n = if_some _ _ _ _ c.in_ok-name.ensures.found c.in-Some-2.is in
    let r = c.in_ok-rules.ensures.found in (
      record { at = start c.args.tokens.now; name_at = start c.in-Some.behind.now; name = c.in-Some-2.name.items; rules = r.0 },
      script_found c.args.tokens.now c.in-Some.behind.now c.in-Some-2.behind.now c.in_ok-rules.rest.now c.in-Some-2.name.items r.0 c.in-Some.ensures.found n r.1,
      script_kept (start c.args.tokens.now) (start c.in-Some.behind.now) c.start_of-at.result c.start_of-name_at.result c.in-Some-2.name.items r.0 c.in_ok-rules.rules.items c.in_ok-rules.is_high c.start_of-at.ensures c.start_of-name_at.ensures r.2,
    )
