-- The parts of a substitution are smaller than the substitution.
use Rattle.std.specs.Prelude.{◌≤◌, max}
use Rattle.std.proofs.Common.{arith}
use Rattle.bk_gsl.specs.SubSize.{substitution_size}
use Rattle.bk_gsl.specs.Codes.SubView.{sub_view}
use Rattle.bk_gsl.specs.declared.substitution.SubNode.{SubNode}
use Rattle.bk_gsl.specs.declared.substitution.SubNode.TheVariants.{Pre}
use Rattle.bk_gsl.specs.declared.substitution.Sub.TheDeep.{deep-SubNode}

-- each part of a substitution is smaller than it, so that a recursion into the parts ends
pub sub_falls : (n : SubNode) → max (deep-SubNode n) 0 ≤ substitution_size (sub_view n)
sub_falls (Pre p s) = omega arith
sub_falls _ = omega arith
