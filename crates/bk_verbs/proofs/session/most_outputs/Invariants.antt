use Rattle.std.proofs.Common.{◌≤◌, All, length, take}
use Rattle.bk_verbs.proofs.session.most_outputs.Given as goal

abbrev pub invariant-loop-entry : goal.invariant-loop-entry
invariant-loop-entry l = All (λ e. length e.outputs ≤ l.most) (take l.entry-index l.image.ops)
