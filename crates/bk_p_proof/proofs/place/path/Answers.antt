use Rattle.std.proofs.Common.{sym, subst}
use Rattle.bk_raw.specs.Grammar.Pieces.{Digits}
use Rattle.bk_p_proof.proofs.Places.{RowTo, path_none, path_more, path_longest, path_shorter}
use Rattle.bk_p_proof.proofs.place.path.Goals as goal

pub loop-number-init : goal.loop-number-init
loop-number-init c = subst (λ ns. RowTo Digits c.args.tokens.now ns c.args.tokens.now) (sym c.new-numbers.ensures.items) (path_none c.args.tokens.now)

pub loop-number-preserved : goal.loop-number-preserved
loop-number-preserved c = subst (λ ns. RowTo Digits c.args.tokens.now ns c.in-Some.after.now) (sym c.in_ok-push.ensures.items) (path_more c.args.tokens.now c.loop-number.rest.now c.in-Some.after.now c.loop-number.numbers.items c.in-Some.number c.loop-number.invariant c.in-Some.ensures.found)

pub returns-clause-found : goal.returns-clause-found
returns-clause-found c = path_longest c.args.tokens.now c.loop-number.rest.now c.loop-number.numbers.items c.loop-number.invariant c.in_default.ensures.found

pub returns-clause-shorter : goal.returns-clause-shorter
returns-clause-shorter c = path_shorter c.args.tokens.now c.loop-number.rest.now c.loop-number.numbers.items c.loop-number.invariant
