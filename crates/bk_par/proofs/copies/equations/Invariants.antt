use Rattle.std.proofs.Common.{◌≡◌, ◌+◌, ◌*◌, drop}
use Rattle.bk_form.specs.Formula.{formula_size}
use Rattle.bk_form.specs.Predicates.{equation}
use Rattle.bk_gsl.specs.Flat.{equations_onto}
use Rattle.bk_par.proofs.copies.equations.Given as goal

abbrev pub invariant-loop-pair : goal.invariant-loop-pair
invariant-loop-pair l = (equations_onto l.joined (drop l.pair-index l.others) ≡ equations_onto (equation l.fn.first) l.others) × (formula_size l.joined ≡ 4 * l.pair-index + 3)
