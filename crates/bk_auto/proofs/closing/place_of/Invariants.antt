use Rattle.std.proofs.Common.{◌≡◌, ℕ, ◌<◌, false, get_or}
use Rattle.bk_form.specs.Formula.{Formula}
use Rattle.bk_auto.proofs.closing.place_of.Given as goal

abbrev pub invariant-loop-index : goal.invariant-loop-index
invariant-loop-index l = (k : ℕ) (d : Formula) → k < l.index → get_or l.hyps k d ≡ l.form → ⊥
