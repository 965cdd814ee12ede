use Rattle.std.proofs.Common.{arith}
use Rattle.bk_wd.proofs.Firsts.{within_first_range}
use Rattle.bk_wd.proofs.ranges.+in_ranges_onto.Goals as goal

pub returns-in_err-element-in-len1-up-clause-too_large : goal.returns-in_err-element-in-len1-up-clause-too_large
returns-in_err-element-in-len1-up-clause-too_large t c = λ e w.
    c.in_err-element-in-len1-up.ensures.too_large (grind arith)
    (within_first_range c.args.number c.args.form c.args.ranges.now c.first-item.result c.in_ok-number_of-in-len1-up.field-0 c.in-len1-up.len_at_least c.first-item.is c.in_ok-number_of-in-len1-up.ensures w)
