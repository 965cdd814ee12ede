-- The longest substitution that is written from a place on, and why none is read.
use Rattle.std.specs.Prelude.{◌≡◌, ℕ, ◌+◌, ◌<◌, List, ◌++◌, length}
use Rattle.bk_limits.specs.declared.TheConstants.{GREATEST_TREE_HEIGHT}
use Rattle.bk_form.specs.declared.token.Token.{Token}
use Rattle.bk_raw.specs.Grammar.Laws.{IsLongestSub}
use Rattle.bk_raw.specs.Trees.SubTree.{SubTree, sub_height}
use Rattle.bk_raw.specs.Grammar.SubSpelling.{SpellsSub}
use Rattle.bk_p_expr.specs.Depth.{IsShallowFrom, IsTooDeepFrom}
use Rattle.bk_p_expr.specs.declared.fault.SynFault.{SynFault}
use Rattle.bk_p_expr.specs.declared.fault.SynFault.TheVariants.{At, Depth, High, Memory}

-- the tokens from one place up to another, without that one, are the longest substitution from there on
pub record IsLongestFrom (tokens : List Token) (at next : ℕ) (s : SubTree) : Type 0 where
  pub before : List Token
  pub written : List Token
  pub after : List Token
  pub splits : tokens ≡ before ++ (written ++ after)
  pub begins : length before ≡ at
  pub ends : at + length written ≡ next
  pub longest : IsLongestSub (written ++ after) s written after

-- no substitution is written from this place on
abbrev pub NothingSpelled : List Token → ℕ → Type 0
NothingSpelled tokens at = (s : SubTree) (before written after : List Token) →
    tokens ≡ before ++ (written ++ after) → length before ≡ at → SpellsSub s written → ⊥

-- the fault is that of the tokens, read as a substitution from this place on: what is too deep is answered first, and what is
-- too high only where a substitution is written
abbrev pub IsSubFault : List Token → ℕ → SynFault → Type 0
IsSubFault tokens at (At place) = IsShallowFrom tokens at × (place ≡ at) × NothingSpelled tokens at
IsSubFault tokens at (Depth place) = IsTooDeepFrom tokens at place
IsSubFault tokens at High = IsShallowFrom tokens at × (s : SubTree) × (next : ℕ)
    × IsLongestFrom tokens at next s × (GREATEST_TREE_HEIGHT < sub_height s)
IsSubFault tokens at Memory = Unit {0}
