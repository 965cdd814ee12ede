-- How deep and how high what is written may be.
use Rattle.std.specs.Prelude.{ℕ, ◌+◌, ◌<◌, ◌≤◌, List, length, map, take}
use Rattle.bk_limits.specs.declared.TheConstants.{MOST_OPEN, GREATEST_TREE_HEIGHT}
use Rattle.bk_form.specs.declared.token.Token.{Token}
use Rattle.bk_raw.specs.Grammar.Brackets.{open_brackets, open_blocks}
use Rattle.bk_raw.specs.Trees.Numbers.{greatest}
use Rattle.bk_raw.specs.Trees.SubTree.{SubTree, sub_height}
use Rattle.bk_raw.specs.Trees.ComponentTree.{RawComponent, component_height}
use Rattle.bk_raw.specs.Trees.ScriptTree.{RawScript, script_height}

-- after these tokens at most MOST_OPEN brackets are open, and at most MOST_OPEN blocks
abbrev pub IsWithinDepth : List Token → Type 0
IsWithinDepth tokens = (open_brackets tokens ≤ MOST_OPEN) × (open_blocks tokens ≤ MOST_OPEN)

-- so it is after each of the tokens
abbrev pub IsShallow : List Token → Type 0
IsShallow tokens = (n : ℕ) → n ≤ length tokens → IsWithinDepth (take n tokens)

-- the first token at which it is not so
pub record IsTooDeep (tokens : List Token) (place : ℕ) : Type 0 where
  pub inside : place < length tokens
  pub deep : IsWithinDepth (take (place + 1) tokens) → ⊥
  pub first : (n : ℕ) → n ≤ place → IsWithinDepth (take n tokens)

-- at most GREATEST_TREE_HEIGHT nodes lie on any way down the substitution, its terms included
abbrev pub IsLowSub : SubTree → Type 0
IsLowSub s = sub_height s ≤ GREATEST_TREE_HEIGHT

-- and on any way down a term or a substitution of the component
abbrev pub IsLowComponent : RawComponent → Type 0
IsLowComponent c = component_height c ≤ GREATEST_TREE_HEIGHT

-- and on any way down a term of the proof file
abbrev pub IsLowFile : List RawScript → Type 0
IsLowFile ss = greatest (map script_height ss) ≤ GREATEST_TREE_HEIGHT
