use Rattle.std.proofs.Common.{◌≡◌, map, take, []}
use Rattle.bk_kernel.specs.Held.{branch_of}
use Rattle.bk_kernel.proofs.rewriting.goals_then.Given as goal

abbrev pub invariant-loop-form : goal.invariant-loop-form
invariant-loop-form l = map branch_of l.branches.items ≡ map (λ p. ([], p)) (take l.form-index l.forms)
