use Rattle.std.proofs.Common.{◌≡◌, map}
use Rattle.bk_seq.specs.Sequents.{sequent_of}
use Rattle.bk_kernel.specs.Branches.{extended}
use Rattle.bk_kernel.specs.Held.{branch_of}
use Rattle.bk_kernel.proofs.branch.sequents_with.Given as goal

abbrev pub invariant-loop-branch : goal.invariant-loop-branch
invariant-loop-branch l = map sequent_of l.news.items ≡ map (λ b. extended (sequent_of l.sequent) (branch_of b)) l.yielded
