-- The parts of a written substitution are smaller than the substitution.
use Rattle.std.proofs.Common.{◌<◌, ◌≤◌, ◌-◌, ℕ, zero, suc, List, [], ◌∷◌, length, get_or, take, drop, arith}
use Rattle.std.proofs.lemmas.List.{take_rest}
use Rattle.bk_raw.specs.declared.substitution.RawBranch.{RawBranch}
use Rattle.bk_raw.specs.Trees.SubTree.{SubTree, sub, SubNode, sub_skip, sub_size, sub_node_size, branches_size, choices_size, Branches}
use Rattle.bk_raw.specs.Codes.SubView.{branches_of, choices_of}

node_pos : (n : SubNode) → 0 < sub_node_size n
node_pos sub_skip = omega arith
node_pos _ = omega arith

-- each substitution has a node
pub sub_pos : (s : SubTree) → 0 < sub_size s
sub_pos (sub at n) = node_pos n

-- a branch of a list has no more nodes than the list
pub branch_at : (bs : List RawBranch) (last : Branches) (i : ℕ) (d : RawBranch) → i < length bs → sub_size (get_or bs i d).body ≤ branches_size (branches_of bs last)
branch_at [] last i d h = absurd (omega arith)
branch_at (b ∷ bs) last zero d h = omega arith
branch_at (b ∷ bs) last (suc i) d h = let rest : sub_size (get_or bs i d).body ≤ branches_size (branches_of bs last) = branch_at bs last i d (omega arith) in omega arith

-- without its first branch a list has fewer nodes
pub branches_rest : (bs : List RawBranch) (last : Branches) → 1 ≤ length bs → branches_size (branches_of (take (length bs - 1) (drop 1 bs)) last) < branches_size (branches_of bs last)
branches_rest [] last h = absurd (omega arith)
branches_rest (b ∷ bs) last h = rw take_rest (omega (arith, sub_pos b.body))

-- a choice of a list has no more nodes than the list
pub choice_at : (ss : List SubTree) (i : ℕ) (d : SubTree) → i < length ss → sub_size (get_or ss i d) ≤ choices_size (choices_of ss)
choice_at [] i d h = absurd (omega arith)
choice_at (s ∷ ss) zero d h = omega arith
choice_at (s ∷ ss) (suc i) d h = let rest : sub_size (get_or ss i d) ≤ choices_size (choices_of ss) = choice_at ss i d (omega arith) in omega arith

-- without its first choice a list has fewer nodes
pub choices_rest : (ss : List SubTree) → 1 ≤ length ss → choices_size (choices_of (take (length ss - 1) (drop 1 ss))) < choices_size (choices_of ss)
choices_rest [] h = absurd (omega arith)
choices_rest (s ∷ ss) h = rw take_rest (omega (arith, sub_pos s))

pub ruleset parts_are_smaller = (sub_pos, branch_at, branches_rest, choice_at, choices_rest)
