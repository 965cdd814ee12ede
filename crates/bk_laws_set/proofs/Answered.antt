-- Picks that are within the limits are small, and a refusal of picks has one number.
use Rattle.std.proofs.Common.{◌≡◌, ℕ, List, Result, Err, All}
use Rattle.bk_form.specs.Formula.{Formula}
use Rattle.bk_bind.specs.Limits.{IsWithinLimits}
use Rattle.bk_bind.specs.declared.law.LawInstance.{LawInstance}
use Rattle.bk_bind.specs.declared.law.LawFault.{LawFault}
use Rattle.bk_bind.specs.declared.law.LawFault.TheVariants.{Picks}
use Rattle.bk_laws.specs.Rows.{IsSmall}

pub small-picks : (picks : List Formula) → All IsWithinLimits picks → All IsSmall picks
small-picks picks h k d l = (h k d l).nodes

pub wrong-number : (j k : ℕ) → ◌≡◌ {A = Result LawInstance LawFault} (Err (Picks j)) (Err (Picks k)) → j ≡ k
wrong-number j k h = cc
