-- The parts of a raw substitution are smaller than the substitution.
use Rattle.std.specs.Prelude.{ℕ, ◌+◌, ◌≤◌, max, List, [], ◌∷◌, Some, None}
use Rattle.std.proofs.Common.{arith}
use denote.Param.Weighed.{most}
use Rattle.bk_raw.specs.Trees.SubTree.{SubTree, Branches, no_branches, else_branch, sub_size, branches_size, choices_size}
use Rattle.bk_raw.specs.Codes.SubView.{sub_of, branches_of, choices_of}
use Rattle.bk_raw.specs.declared.substitution.RawBranch.{RawBranch}
use Rattle.bk_raw.specs.declared.substitution.RawSubNode.{RawSubNode}
use Rattle.bk_raw.specs.declared.substitution.RawSubNode.TheVariants.{If, Choice, Select}
use Rattle.bk_raw.specs.declared.substitution.RawSub.TheDeep.{deep-RawSubNode, deep-RawBranch}

-- the largest of these choices is no larger than all of them
most_le-choices_size : (ss : List SubTree) → most (λ s. sub_size s + 1) ss ≤ choices_size (choices_of ss) + 1
most_le-choices_size [] = omega arith
most_le-choices_size (s ∷ ss) = omega (arith, most_le-choices_size ss)

-- the largest of these branches is no larger than all of them with the last ones
most_le-branches_size : (bs : List RawBranch) (last : Branches) → most deep-RawBranch bs ≤ branches_size (branches_of bs last) + 1
most_le-branches_size [] last = omega arith
most_le-branches_size (b ∷ bs) last = omega (arith, most_le-branches_size bs last)

-- the last ones are no larger than all
last_le-branches_size : (bs : List RawBranch) (last : Branches) → branches_size last ≤ branches_size (branches_of bs last)
last_le-branches_size [] last = omega arith
last_le-branches_size (b ∷ bs) last = omega (arith, last_le-branches_size bs last)

-- what a node is made of is smaller than the substitution
pub sub_falls : (at : ℕ) (n : RawSubNode) → max (deep-RawSubNode n) 0 ≤ sub_size (sub_of at n)
sub_falls at (If p s bs None) = omega (arith, most_le-branches_size bs.items no_branches)
sub_falls at (If p s bs (Some e)) =
    omega (arith, most_le-branches_size bs.items (else_branch e.value), last_le-branches_size bs.items (else_branch e.value))
sub_falls at (Choice s ss) = omega (arith, most_le-choices_size ss.items)
sub_falls at (Select p s bs None) = omega (arith, most_le-branches_size bs.items no_branches)
sub_falls at (Select p s bs (Some e)) =
    omega (arith, most_le-branches_size bs.items (else_branch e.value), last_le-branches_size bs.items (else_branch e.value))
sub_falls at _ = omega arith
