use Rattle.std.proofs.Common.{false, sym, subst}
use Rattle.bk_raw.specs.Grammar.Reading.{start}
use Rattle.bk_raw.specs.Trees.SubTree.{sub, sub_call}
use Rattle.bk_p_expr.specs.Fronts.{Longest, Nothing}
use Rattle.bk_p_expr.proofs.Choices.{if_none, if_some}
use Rattle.bk_p_sub.specs.Found.{Atom, Call, FoundCall}
use Rattle.bk_p_sub.proofs.Blocks.{FoundSub}
use Rattle.bk_p_sub.proofs.Calls.{call_longest, nothing_named, written_longest}
use Rattle.bk_p_sub.proofs.opening.named.Goals as goal

pub returns-in-Some-clause-found : goal.returns-in-Some-clause-found
returns-in-Some-clause-found c =
    let f : FoundSub false 2 c.args.tokens.now c.in-Some.statement c.in-Some.rest.now = if_some _ _ _ _ c.in_ok-statement.ensures.found c.in-Some.is in
    (f.0, written_longest c.args.calls c.args.tokens.now c.in-Some.rest.now f.0 c.requires f.1, f.2)

pub returns-then-not-calls-clause-found : goal.returns-then-not-calls-clause-found
returns-then-not-calls-clause-found c = subst (λ b. Nothing (Atom b) c.args.tokens.now) (sym c.if-not-calls.true) (if_none _ _ _ c.in_ok-statement.ensures.found c.in_default.is)

pub returns-in_default-2-clause-found : goal.returns-in_default-2-clause-found
returns-in_default-2-clause-found c = subst (λ b. Nothing (Atom b) c.args.tokens.now) (sym c.if-not-calls.false) (nothing_named c.args.tokens.now c.requires (if_none _ _ _ c.in_ok-statement.ensures.found c.in_default.is) (if_none _ _ _ c.in_ok-statement-2.ensures.found c.in_default-2.is))

pub returns-clause-found : goal.returns-clause-found
returns-clause-found c =
    let f : FoundCall Call c.args.tokens.now c.in-Some-2.statement c.in-Some-2.rest.now = if_some _ _ _ _ c.in_ok-statement-2.ensures.found c.in-Some-2.is in
    let q = f.0 in
    (sub (start c.args.tokens.now) (sub_call q.0 q.1.0 q.1.1), subst (λ b. Longest (Atom b) c.args.tokens.now (sub (start c.args.tokens.now) (sub_call q.0 q.1.0 q.1.1)) c.in-Some-2.rest.now) (sym c.if-not-calls.false) (call_longest c.args.tokens.now c.in-Some-2.rest.now q c.requires (if_none _ _ _ c.in_ok-statement.ensures.found c.in_default.is) f.1), f.2)
