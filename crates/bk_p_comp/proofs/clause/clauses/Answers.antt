use Rattle.std.proofs.Common.{refl}
use Rattle.bk_p_expr.proofs.Choices.{if_none, if_some}
use Rattle.bk_p_comp.proofs.Follows.{clauses_begin, clauses_end, clauses_go_on}
use Rattle.bk_p_comp.proofs.clause.clauses.Goals as goal

pub loop-done-init : goal.loop-done-init
loop-done-init c = clauses_begin c.args.kind.now c.args.tokens.now _ c.new-numbers.ensures.items c.new-clauses.ensures.items refl

pub loop-done-preserved : goal.loop-done-preserved
loop-done-preserved c =
    let s = c.loop-done.invariant in
    clauses_go_on c.args.kind.now c.args.tokens.now c.loop-done.rest.now c.in-Some.after.now c.loop-done.done c.in_ok-done.done c.in-Some.next s (if_some _ _ _ _ (c.in_ok-next.ensures.found s.clauses s.are) c.in-Some.is) c.in_ok-done.ensures

pub returns : goal.returns
returns c =
    let s = c.loop-done.invariant in
    clauses_end c.args.kind.now c.args.tokens.now c.loop-done.rest.now c.loop-done.done s (if_none _ _ _ (c.in_ok-next.ensures.found s.clauses s.are) c.in_default.is)
