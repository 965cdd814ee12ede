use Rattle.std.proofs.Common.{◌≡◌, ◌++◌, drop}
use Rattle.bk_bind.specs.Renaming.{new_name}
use Rattle.bk_gsl.specs.Flat.{renamed_terms}
use Rattle.bk_par.proofs.renaming.renamed_terms.Given as goal

abbrev pub invariant-loop-variable : goal.invariant-loop-variable
invariant-loop-variable l = l.others.items ++ renamed_terms (new_name l.pairs) (drop l.variable-index l.terms) ≡ renamed_terms (new_name l.pairs) l.terms
