use Rattle.std.proofs.Common.{◌++◌, [], ◌∷◌, map, ap, sym, subst, ◌∙◌}
use Rattle.bk_raw.specs.Codes.ScriptView.{line_of}
use Rattle.bk_p_expr.proofs.Choices.{if_none, if_some}
use Rattle.bk_p_proof.proofs.Rows.{map_last}
use Rattle.bk_p_proof.proofs.Certificates.{LinesSoFar, lines_none, lines_begin, lines_go_on, lines_end, lines_end_before}
use Rattle.bk_p_proof.proofs.certificate.lines.Goals as goal

pub returns-in_default-clause-found : goal.returns-in_default-clause-found
returns-in_default-clause-found c = lines_none c.args.tokens.now (if_none _ _ _ c.in_ok-first.ensures.found c.in_default.is)

pub loop-behind-init : goal.loop-behind-init
loop-behind-init c = subst (λ xs. LinesSoFar c.args.tokens.now (map line_of xs) c.in-Some.after.now) (sym (c.in_ok-push.ensures.items ∙ ap (λ xs. xs ++ c.in-Some.first ∷ []) c.new-all.ensures.items)) (lines_begin c.args.tokens.now c.in-Some.after.now (line_of c.in-Some.first) (if_some _ _ _ _ c.in_ok-first.ensures.found c.in-Some.is) (if_some _ _ _ _ c.in_ok-first.ensures.shorter c.in-Some.is))

pub loop-behind-preserved : goal.loop-behind-preserved
loop-behind-preserved c = subst (λ xs. LinesSoFar c.args.tokens.now xs c.in-Some-2.after.now) (sym (ap (map line_of) c.in_ok-push-2.ensures.items ∙ map_last line_of c.loop-behind.all.items c.in-Some-2.line)) (lines_go_on c.args.tokens.now c.loop-behind.rest.now c.in-Some-after_sign.behind.now c.in-Some-2.after.now (map line_of c.loop-behind.all.items) (line_of c.in-Some-2.line) c.loop-behind.invariant c.in-Some-after_sign.ensures.found (if_some _ _ _ _ c.in_ok-line.ensures.found c.in-Some-2.is) (if_some _ _ _ _ c.in_ok-line.ensures.shorter c.in-Some-2.is))

pub returns-in_default-2-clause-found : goal.returns-in_default-2-clause-found
returns-in_default-2-clause-found c = lines_end_before c.args.tokens.now c.loop-behind.rest.now c.in-Some-after_sign.behind.now (map line_of c.loop-behind.all.items) c.loop-behind.invariant c.in-Some-after_sign.ensures.found (if_none _ _ _ c.in_ok-line.ensures.found c.in_default-2.is)

pub returns-clause-found : goal.returns-clause-found
returns-clause-found c = lines_end c.args.tokens.now c.loop-behind.rest.now (map line_of c.loop-behind.all.items) c.loop-behind.invariant c.in_default-after_sign.ensures.found

pub returns-in_default-2-clause-shorter : goal.returns-in_default-2-clause-shorter
returns-in_default-2-clause-shorter c = c.loop-behind.invariant.shorter

pub returns-clause-shorter : goal.returns-clause-shorter
returns-clause-shorter c = c.loop-behind.invariant.shorter
