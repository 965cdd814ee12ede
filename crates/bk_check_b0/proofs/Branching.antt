-- The first branch of a list and the others have no more nodes than the list.
use Rattle.std.proofs.Common.{◌≤◌, ◌+◌, ◌-◌, List, [], ◌∷◌, length, get_or, take, drop, arith}
use Rattle.std.proofs.lemmas.List.{take_rest}
use Rattle.bk_raw.specs.declared.substitution.RawBranch.{RawBranch}
use Rattle.bk_raw.specs.Trees.SubTree.{sub_size, branches_size, Branches}
use Rattle.bk_raw.specs.Codes.SubView.{branches_of}

pub branch_whole : (bs : List RawBranch) (last : Branches) (d : RawBranch) → 1 ≤ length bs → sub_size (get_or bs 0 d).body + branches_size (branches_of (take (length bs - 1) (drop 1 bs)) last) ≤ branches_size (branches_of bs last)
branch_whole [] last d h = absurd (omega arith)
branch_whole (b ∷ bs) last d h = rw take_rest (omega arith)
