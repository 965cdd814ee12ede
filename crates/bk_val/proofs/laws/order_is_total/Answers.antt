use Rattle.bk_val.specs.CmpLaws.{value_cmp-total, value_cmp-equal, value_cmp-self}
use Rattle.bk_val.proofs.laws.order_is_total.Goals as goal

pub returns-clause-total : goal.returns-clause-total
returns-clause-total c = value_cmp-total

pub returns-clause-equal : goal.returns-clause-equal
returns-clause-equal c x y = (value_cmp-equal x y, λ e. rw e (value_cmp-self y))
