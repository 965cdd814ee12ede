-- The lists of hypotheses that the program keeps of a level, and the clauses that a development has. Private contracts alone speak of them.
use Rattle.std.specs.Prelude.{◌≡◌, ◌<◌, ℕ, suc, ◌++◌, length}
use Rattle.bk_dev.specs.Development.{Development}
use Rattle.bk_dev.specs.Hypotheses.{facts_of, properties_hypotheses, invariant_hypotheses, assertion_hypotheses, init_hypotheses}
use Rattle.bk_po.specs.declared.clause.Clause.{Clause}
use Rattle.bk_po.specs.declared.clause.Clause.TheVariants.{Operation, OperationDefined}
use Rattle.bk_po.specs.declared.hypotheses.Known.{Known}

-- what is supposed at level k
pub record IsKnownAt (dev : Development) (k : ℕ) (known : Known) : Type 0 where
  pub properties : known.properties.items ≡ properties_hypotheses dev k
  pub begins : known.begins.items ≡ init_hypotheses dev k
  pub before : known.before.items ≡ invariant_hypotheses dev k
  pub joined : known.joined.items ≡ assertion_hypotheses dev k
  pub all : known.all.items ≡ init_hypotheses dev k ++ facts_of dev (suc k)

-- a clause of an operation is that of one which stands
abbrev pub FitsClause : Development → Clause → Type 0
FitsClause dev (Operation o) = o < length dev.heads
FitsClause dev (OperationDefined o) = o < length dev.heads
FitsClause dev _ = Unit {0}
