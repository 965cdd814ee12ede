use Rattle.std.proofs.Common.{arith, sym}
use Rattle.bk_p_sub.proofs.statement.limited.Goals as goal

pub returns-then-height-ge-GREATEST_TREE_HEIGHT : goal.returns-then-height-ge-GREATEST_TREE_HEIGHT
returns-then-height-ge-GREATEST_TREE_HEIGHT c = λ s e h. omega (arith, h, c.if-height-ge-GREATEST_TREE_HEIGHT.true)

pub returns : goal.returns
returns c = λ s e h. (e, sym h, omega (arith, c.if-height-ge-GREATEST_TREE_HEIGHT.false))
