-- The parts of an expression are smaller than the expression.
use Rattle.std.specs.Prelude.{◌≤◌, max}
use Rattle.std.proofs.Common.{arith}
use Rattle.bk_elab_terms.specs.Expressions.{expression_size}
use Rattle.bk_elab_terms.specs.Codes.ExpressionView.{expression_of}
use Rattle.bk_elab_terms.specs.declared.partial.Node.{Node}
use Rattle.bk_elab_terms.specs.declared.partial.Node.TheVariants.{Whole, Empty, Single, Pair, Joined}
use Rattle.bk_elab_terms.specs.declared.partial.Expression.TheDeep.{deep-Node}

-- what a node is made of is smaller than the expression
pub expression_falls : (n : Node) → max (deep-Node n) 0 ≤ expression_size (expression_of n)
expression_falls (Whole f t) = omega arith
expression_falls Empty = omega arith
expression_falls (Single e) = omega arith
expression_falls (Pair a b) = omega arith
expression_falls (Joined j a b) = omega arith
