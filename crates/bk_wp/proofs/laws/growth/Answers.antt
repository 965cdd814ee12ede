use Rattle.bk_wp.proofs.Growth.{box_no_smaller, diamond_no_smaller}
use Rattle.bk_wp.proofs.laws.growth.Goals as goal

pub returns-clause-boxes : goal.returns-clause-boxes
returns-clause-boxes c = box_no_smaller

pub returns-clause-diamonds : goal.returns-clause-diamonds
returns-clause-diamonds c = diamond_no_smaller
