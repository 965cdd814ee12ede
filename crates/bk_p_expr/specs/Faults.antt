-- Why no term is read.
use Rattle.std.specs.Prelude.{◌≡◌, ℕ, ◌<◌, List}
use Rattle.bk_limits.specs.declared.TheConstants.{GREATEST_TREE_HEIGHT}
use Rattle.bk_form.specs.declared.token.Token.{Token}
use Rattle.bk_raw.specs.Trees.RawTree.{RawTree, tree_height}
use Rattle.bk_p_expr.specs.Depth.{IsShallowFrom, IsTooDeepFrom}
use Rattle.bk_p_expr.specs.Longest.{SpellsBetween, IsLongest}
use Rattle.bk_p_expr.specs.declared.fault.SynFault.{SynFault}
use Rattle.bk_p_expr.specs.declared.fault.SynFault.TheVariants.{At, Depth, High, Memory}

-- no term is written from this place on
abbrev pub NothingSpelled : List Token → ℕ → Type 0
NothingSpelled tokens at = (tree : RawTree) (next : ℕ) → SpellsBetween tokens at next tree → ⊥

-- the fault is that of the tokens, read as a term from this place on: what is too deep is answered first, and what is too
-- high only where a term is written
abbrev pub IsTermFault : List Token → ℕ → SynFault → Type 0
IsTermFault tokens at (At place) = IsShallowFrom tokens at × (place ≡ at) × NothingSpelled tokens at
IsTermFault tokens at (Depth place) = IsTooDeepFrom tokens at place
IsTermFault tokens at High = IsShallowFrom tokens at × (tree : RawTree) × (next : ℕ)
    × IsLongest tokens at next tree × (GREATEST_TREE_HEIGHT < tree_height tree)
IsTermFault tokens at Memory = Unit {0}
