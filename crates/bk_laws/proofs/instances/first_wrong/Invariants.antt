use Rattle.std.proofs.Common.{◌≡◌, drop}
use Rattle.bk_laws.specs.Tables.{row_of, wrong_from}
use Rattle.bk_laws.proofs.instances.first_wrong.Given as goal

abbrev pub invariant-loop-form : goal.invariant-loop-form
invariant-loop-form l = (wrong_from (row_of l.pats l.law) l.k (drop l.form-index l.picks) ≡ wrong_from (row_of l.pats l.law) 0 l.picks) × (l.k ≡ l.form-index)
