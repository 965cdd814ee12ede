-- How large a formula may be that is made of others.
use Rattle.std.specs.Prelude.{◌≤◌}
use Rattle.bk_limits.specs.declared.TheConstants.{MOST_NODES, GREATEST_HEIGHT}
use Rattle.bk_form.specs.Formula.{Formula, formula_size, formula_height}

-- at most MOST_NODES nodes, and at most GREATEST_HEIGHT of them on any way down
pub record IsWithinLimits (f : Formula) : Type 0 where
  pub nodes : formula_size f ≤ MOST_NODES
  pub height : formula_height f ≤ GREATEST_HEIGHT
