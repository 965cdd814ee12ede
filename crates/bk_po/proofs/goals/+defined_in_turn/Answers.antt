use Rattle.std.proofs.Common.{arith}
use Rattle.bk_po.proofs.InTurn.{within_first_turn, within_implied_turn, within_other_turns}
use Rattle.bk_po.proofs.goals.+defined_in_turn.Goals as goal

pub returns-in_err-condition-in-len1-up-clause-too_large : goal.returns-in_err-condition-in-len1-up-clause-too_large
returns-in_err-condition-in-len1-up-clause-too_large t c = λ e w.
    c.in_err-condition-in-len1-up.ensures.too_large (grind arith)
    (within_first_turn c.args.types.now c.args.assertions.now c.first-item.result c.first-item.is c.in-len1-up.len_at_least w)

pub returns-in_err-rest-in-len1-up-clause-too_large : goal.returns-in_err-rest-in-len1-up-clause-too_large
returns-in_err-rest-in-len1-up-clause-too_large t c = λ e w.
    c.in_err-rest-in-len1-up.ensures.too_large (grind arith)
    (within_other_turns c.args.types.now c.args.assertions.now c.in-len1-up.len_at_least w)

pub returns-in_err-where_true-in-len1-up-clause-too_large : goal.returns-in_err-where_true-in-len1-up-clause-too_large
returns-in_err-where_true-in-len1-up-clause-too_large t c = λ e w.
    c.in_err-where_true-in-len1-up.ensures.too_large (grind arith)
    (within_implied_turn c.args.types.now c.args.assertions.now c.first-item.result c.in_ok-rest-in-len1-up.rest c.first-item.is c.in-len1-up.len_at_least c.in_ok-rest-in-len1-up.ensures.value w)
