use Rattle.std.proofs.Common.{take}
use Rattle.bk_form.specs.Formula.{formulas_of}
use Rattle.bk_form.specs.PoolKeys.{AreAt, held}
use Rattle.bk_form.proofs.pool.members_at.Given as goal

abbrev pub invariant-loop-n : goal.invariant-loop-n
invariant-loop-n l = AreAt (held l.members.entries) (take l.n-index l.numbers) (formulas_of l.copies.items)
