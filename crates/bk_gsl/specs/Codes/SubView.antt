-- The substitution that a node stands for.
use Rattle.bk_gsl.specs.Substitution.{Substitution, skip, assign, pre, guard, choice, if_else, any, seq, par, assert, becomes_such, loop}
use Rattle.bk_gsl.specs.declared.substitution.SubNode.{SubNode}
use Rattle.bk_gsl.specs.declared.substitution.SubNode.TheVariants.{Skip, Assign, Pre, Guard, Choice, If, Any}
use Rattle.bk_gsl.specs.declared.substitution.SubNode.TheVariants.{Seq, Par, While, Assert, BecomesSuch}

-- the substitution that has this node at its top
abbrev pub sub_view : SubNode → Substitution
sub_view Skip = skip
sub_view (Assign ps) = assign ps.items
sub_view (Pre p s) = pre p s
sub_view (Guard p s) = guard p s
sub_view (Choice s t) = choice s t
sub_view (If p s t) = if_else p s t
sub_view (Any zs s) = any zs.items s
sub_view (Seq s t) = seq s t
sub_view (Par s t) = par s t
sub_view (While p s i v) = loop p s i v
sub_view (Assert p s) = assert p s
sub_view (BecomesSuch xs p) = becomes_such xs.items p
