use Rattle.std.proofs.Common.{◌≤◌, List, length, map, arith}
use Rattle.std.proofs.lemmas.List.{length-map}
use Rattle.bk_calls.specs.declared.script.Call.{Call}
use Rattle.std.proofs.lemmas.Result.{IfOk-weaker, IfErr-at_err}
use Rattle.bk_lines.specs.Lines.{kept_lines}
use Rattle.bk_calls.specs.Script.{request_of, most_calls}
use Rattle.bk_calls.specs.Outcome.{IsFaultOf}
use Rattle.bk_calls.proofs.Scripts.{read_as_script, read_within, requests_fit, passes_limit}
use Rattle.bk_calls.proofs.Limits.{script_is_told, told_line, line_is_told, limit_is_told}
use Rattle.bk_calls.proofs.script.calls.Goals as goal

few_calls : (calls : List Call) → length (map request_of calls) ≤ most_calls → length calls ≤ most_calls
few_calls calls h = omega (arith, length-map calls request_of)

pub returns-clause-ok : goal.returns-clause-ok
returns-clause-ok c =
    IfOk-weaker c.read_calls.result _ _ (λ calls h. read_as_script c.args.image.now c.args.text.now (map request_of calls.items) h) c.read_calls.ensures.ok

pub returns-clause-requests : goal.returns-clause-requests
returns-clause-requests c =
    IfOk-weaker c.read_calls.result _ _
    (λ calls h. requests_fit c.args.image.now (kept_lines c.args.text.now) (map request_of calls.items) (read_as_script c.args.image.now c.args.text.now (map request_of calls.items) h))
    c.read_calls.ensures.ok

pub returns-clause-few : goal.returns-clause-few
returns-clause-few c =
    IfOk-weaker c.read_calls.result _ _ (λ calls h. few_calls calls.items (read_within c.args.image.now c.args.text.now (map request_of calls.items) h)) c.read_calls.ensures.ok

pub returns-clause-script : goal.returns-clause-script
returns-clause-script c = script_is_told c.args.image.now c.args.text.now c.read_calls.result c.read_calls.ensures.err

pub returns-clause-line : goal.returns-clause-line
returns-clause-line c number cause is =
    told_line c.args.image.now c.args.text.now cause number (IfErr-at_err (IsFaultOf c.args.image.now c.args.text.now) is c.read_calls.ensures.err)

pub returns-clause-fault : goal.returns-clause-fault
returns-clause-fault c =
    line_is_told (λ calls. map request_of calls.items) c.args.image.now c.args.text.now c.read_calls.result c.read_calls.ensures.ok c.read_calls.ensures.err

pub returns-clause-limit : goal.returns-clause-limit
returns-clause-limit c is =
    passes_limit c.args.image.now c.args.text.now (IfErr-at_err (IsFaultOf c.args.image.now c.args.text.now) is c.read_calls.ensures.err)

pub returns-clause-past : goal.returns-clause-past
returns-clause-past c =
    limit_is_told (λ calls. map request_of calls.items) c.args.image.now c.args.text.now c.read_calls.result c.read_calls.ensures.ok c.read_calls.ensures.err
