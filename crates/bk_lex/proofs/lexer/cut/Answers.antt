use Rattle.std.proofs.Common.{◌≡◌, ◌≤◌, ◌<◌, ◌+◌, length, arith}
use Rattle.bk_limits.specs.declared.TheConstants.{MOST_TOKENS}
use Rattle.bk_lex.specs.Lexis.{Cut}
use Rattle.bk_lex.proofs.Gaps.{err_matches}
use Rattle.bk_lex.proofs.Cutting.{cut_gaps, pushed, length-pushed, begins_some, gap_fault}
use Rattle.bk_lex.proofs.lexer.cut.Goals as goal

pub returns-in_err-rest-2 : goal.returns-in_err-rest-2
returns-in_err-rest-2 c =
    let text = c.args.text.now in
    let found = c.loop-rest.found.items in
    let items = c.push.new.self.items in
    let rest = c.loop-rest.rest.now in
    let after = c.in_ok-kind.after.now in
    let old = c.loop-rest.invariant in
    let less : length after < length rest = begins_some c.in_ok-kind.kind rest after c.in_ok-kind.ensures.0 in
    let cut : Cut (length text) text items after = pushed text found items rest after _ c.in_ok-push.ensures.items old.0 c.in_ok-kind.ensures (omega (arith, old.2)) (omega (arith, old.2)) in
    let more : length items ≡ length found + 1 = length-pushed found items _ c.in_ok-push.ensures.items in
    let few : length items ≤ MOST_TOKENS = omega (arith, old.3, c.if-len-eq-MOST_TOKENS.false) in
    err_matches c.from_residual-in_err-rest-2.result c.in_err-rest-2.field-0.0 _ _ c.from_residual-in_err-rest-2.ensures.1
    (gap_fault text items after c.in_err-rest-2.field-0.0 c.utf8.text few cut c.in_err-rest-2.ensures)

pub loop-rest-smaller : goal.loop-rest-smaller
loop-rest-smaller c =
    let rest = c.loop-rest.rest.now in
    let after = c.in_ok-kind.after.now in
    let less : length after < length rest = begins_some c.in_ok-kind.kind rest after c.in_ok-kind.ensures.0 in
    omega (arith, c.in_ok-rest-2.ensures.3)

pub loop-rest-preserved : goal.loop-rest-preserved
loop-rest-preserved c =
    let text = c.args.text.now in
    let found = c.loop-rest.found.items in
    let items = c.push.new.self.items in
    let rest = c.loop-rest.rest.now in
    let after = c.in_ok-kind.after.now in
    let next = c.in_ok-rest-2.rest.now in
    let old = c.loop-rest.invariant in
    let less : length after < length rest = begins_some c.in_ok-kind.kind rest after c.in_ok-kind.ensures.0 in
    let cut : Cut (length text) text items after = pushed text found items rest after _ c.in_ok-push.ensures.items old.0 c.in_ok-kind.ensures (omega (arith, old.2)) (omega (arith, old.2)) in
    let more : length items ≡ length found + 1 = length-pushed found items _ c.in_ok-push.ensures.items in
    let few : length items ≤ MOST_TOKENS = omega (arith, old.3, c.if-len-eq-MOST_TOKENS.false) in
    let gaps = c.in_ok-rest-2.ensures in (
      cut_gaps (length text) text items after next gaps.0 cut gaps.1,
      gaps.2,
      omega (arith, gaps.3, old.2),
      few,
      gaps.4,
    )
