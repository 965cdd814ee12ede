-- The longest term that is written from a place on.
use Rattle.std.specs.Prelude.{◌≡◌, ℕ, ◌+◌, ◌≤◌, List, ◌++◌, length}
use Rattle.bk_form.specs.declared.token.Token.{Token}
use Rattle.bk_raw.specs.Trees.RawTree.{RawTree}
use Rattle.bk_raw.specs.Grammar.Spelling.{Spells}

-- the tokens from one place up to another, without that one, are those of the term
pub record SpellsBetween (tokens : List Token) (at next : ℕ) (tree : RawTree) : Type 0 where
  pub before : List Token
  pub written : List Token
  pub after : List Token
  pub splits : tokens ≡ before ++ written ++ after
  pub begins : length before ≡ at
  pub ends : at + length written ≡ next
  pub spelling : Spells tree written

-- and none that is written from there on is longer
pub record IsLongest (tokens : List Token) (at next : ℕ) (tree : RawTree) : Type 0 where
  pub spelled : SpellsBetween tokens at next tree
  pub longest : (other : RawTree) (end : ℕ) → SpellsBetween tokens at end other → end ≤ next
