use Rattle.std.proofs.Common.{◌≡◌, ℕ, ◌≤◌, take}
use Rattle.bk_raw.specs.Grammar.Brackets.{open_brackets, open_blocks}
use Rattle.bk_raw.specs.Errors.Limits.{IsWithinDepth}
use Rattle.bk_raw.proofs.depth.too_deep.Given as goal

abbrev pub invariant-loop-place : goal.invariant-loop-place
invariant-loop-place l = record {
  brackets : l.brackets ≡ open_brackets (take l.place l.tokens);
  blocks : l.blocks ≡ open_blocks (take l.place l.tokens);
  first : (n : ℕ) → n ≤ l.place → IsWithinDepth (take n l.tokens);
}
